-- A history as far as it was gone through for the reads that one server sees.
use Rattle.std.specs.Prelude.{◌≡◌, ℕ, List, map, flat_map}
use Rattle.std.specs.List.{range_with_len}
use Rattle.tk_shape.specs.declared.shape.Shape.{Shape}
use Rattle.tk_shape.specs.Lengths.{turn_count}
use Rattle.tk_schedule.specs.declared.history.History.{History}
use Rattle.tk_script.specs.declared.script.Script.{Script}
use Rattle.tk_words.specs.Words.{WordBook}
use Rattle.tk_frames.specs.declared.read_frame.ReadFrame.{ReadFrame}
use Rattle.tk_report.specs.Clients.{known_first}
use Rattle.tk_report.specs.Folds.{KnowBefore, KeepsBefore}
use Rattle.tk_report.specs.Groups.{IsGroup}
use Rattle.tk_privacy.specs.Privacy.{Pairs, pairs_read, read_for}
use Rattle.tk_privacy.specs.declared.reads.Followed.{Followed}

-- the read frames that server j sees in turn g of a run that reads these buckets, by client
abbrev pub reads_at : Shape → WordBook → History → Pairs → ℕ → ℕ → List ReadFrame
reads_at shape b H pairs j g =
    map (λ c. read_for shape b H (pairs g c) g c j) (range_with_len 0 shape.clients)

-- and in the turns before it, turn after turn
unfoldable pub reads_before : Shape → WordBook → History → Pairs → ℕ → ℕ → List ReadFrame
reads_before shape b H pairs j g = flat_map (reads_at shape b H pairs j) (range_with_len 0 g)

-- all those of a run
abbrev pub all_reads : Shape → WordBook → History → Pairs → ℕ → List ReadFrame
all_reads shape b H pairs j = reads_before shape b H pairs j (turn_count shape)

-- the read frame to server j of client c in turn g of a run, those of the turn, and all of the run
abbrev pub read_to_server : Script → WordBook → History → ℕ → ℕ → ℕ → ReadFrame
read_to_server S b H j g c = read_for S.shape b H (pairs_read S b H g c) g c j

abbrev pub reads_to_server_at : Script → WordBook → History → ℕ → ℕ → List ReadFrame
reads_to_server_at S b H j g = reads_at S.shape b H (pairs_read S b H) j g

abbrev pub reads_to_server : Script → WordBook → History → ℕ → List ReadFrame
reads_to_server S b H j = all_reads S.shape b H (pairs_read S b H) j

-- before turn g all is as the definitions say of it, and the reads so far are those of server j
pub record IsFollowedBefore (S : Script) (b : WordBook) (H : History) (j g : ℕ) (f : Followed)
    : Type 0 where
  pub group : IsGroup S (known_first S) g f.group
  pub followers : KnowBefore S b H g f.followers.items
  pub ledger : KeepsBefore S b H g f.ledger
  pub reads : f.reads.items ≡ reads_before S.shape b H (pairs_read S b H) j g
