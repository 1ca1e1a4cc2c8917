-- The entries of a run before a turn, and within it.
use Rattle.std.specs.Prelude.{◌≡◌, ℕ, ◌+◌, List, ◌++◌, length, take}
use Rattle.tk_schedule.specs.declared.history.History.{History}
use Rattle.tk_schedule.specs.declared.item.Item.{Item}
use Rattle.tk_schedule.specs.declared.item.Item.TheVariants.{Client, Publish}
use Rattle.tk_schedule.specs.Schedule.{order_at, phase_of}
use Rattle.tk_script.specs.declared.script.Script.{Script}
use Rattle.tk_words.specs.Words.{WordBook, BookWords, words_of}
use Rattle.tk_frames.specs.declared.write_frame.WriteFrame.{WriteFrame}
use Rattle.tk_frames.specs.declared.entry.Placed.{Placed}
use Rattle.tk_frames.specs.declared.entry.Entry.{Entry}
use Rattle.tk_frames.specs.declared.entry.Entry.TheVariants.{Write, Mark}
use Rattle.tk_report.specs.Entries.{write_at, placed_after, entries_before}

-- the entries of the turns before turn g
abbrev pub placed_before : Script → BookWords → History → ℕ → List Placed
placed_before S w H g = entries_before (write_at S w) H g

-- those of the first i items of turn g
unfoldable pub placed_in : Script → BookWords → History → ℕ → ℕ → List Placed
placed_in S w H g i =
    placed_after (write_at S w g) (placed_before S w H g) (take i (order_at H g))

-- all so far
abbrev pub placed_so_far : Script → BookWords → History → ℕ → ℕ → List Placed
placed_so_far S w H g i = placed_before S w H g ++ placed_in S w H g i

-- the entry of an item of a turn, whose mark has this number
abbrev pub entry_due : (ℕ → WriteFrame) → ℕ → Item → Entry
entry_due write e (Client c) = Write (write c)
entry_due write e Publish = Mark e

-- this is the entry of an item of turn g
abbrev pub IsDue : Script → WordBook → ℕ → Item → Entry → Type 0
IsDue S b g x e = e ≡ entry_due (write_at S (words_of S.shape b) g) (phase_of S.shape g) x

-- an entry at the next place after these
abbrev pub next_placed : List Placed → Entry → Placed
next_placed E entry = record { position = length E + 1; entry = entry }
