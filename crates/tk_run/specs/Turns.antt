-- What servers see of a run, turn after turn.
use Rattle.std.specs.Prelude.{ℕ, List}
use Rattle.tk_schedule.specs.declared.history.History.{History}
use Rattle.tk_script.specs.declared.script.Script.{Script}
use Rattle.tk_words.specs.Words.{WordBook, BookWords, words_of}
use Rattle.tk_report.specs.Entries.{write_at, entries_at}
use Rattle.tk_report.specs.Exchange.{turn_frames, frames_before, bytes_of}
pub use Rattle.tk_report.specs.Turns.{placed_before}
use Rattle.tk_run.specs.Servers.{taken_seen}

-- ---- entries

-- what each server saw of the entries of turn g
abbrev pub entries_seen : Script → BookWords → History → ℕ → ℕ → List ℕ
entries_seen S w H g = taken_seen (entries_at (write_at S w) H g)

-- ---- what servers see

-- the bytes of turn g, and those of the turns before it, where reads gives the frames of each turn's
-- and client's read
unfoldable pub turn_bytes : Script → WordBook → History → (ℕ → ℕ → List (List ℕ)) → ℕ → List ℕ
turn_bytes S b H reads g =
    bytes_of (turn_frames S.shape H (write_at S (words_of S.shape b)) reads g)

unfoldable pub bytes_before : Script → WordBook → History → (ℕ → ℕ → List (List ℕ)) → ℕ → List ℕ
bytes_before S b H reads g =
    bytes_of (frames_before S.shape H (write_at S (words_of S.shape b)) reads g)
