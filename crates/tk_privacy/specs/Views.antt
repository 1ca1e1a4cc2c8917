-- A run as far as its frames were seen.
use Rattle.std.specs.Prelude.{◌≡◌, ℕ, List, [], ◌∷◌, ◌++◌, length, map}
use Rattle.tk_shape.specs.declared.shape.Shape.{Shape}
use Rattle.tk_shape.specs.Lengths.{turn_count}
use Rattle.tk_schedule.specs.declared.history.History.{History}
use Rattle.tk_script.specs.declared.script.Script.{Script}
use Rattle.tk_words.specs.Words.{WordBook, words_of}
use Rattle.tk_frames.specs.declared.entry.Placed.{Placed}
use Rattle.tk_frames.specs.declared.read_frame.ReadFrame.{ReadFrame}
use Rattle.tk_frames.specs.InOrder.{IsOrder}
use Rattle.tk_frames.specs.Spelling.{placed_frame, read_frame}
use Rattle.tk_report.specs.Clients.{known_first}
use Rattle.tk_report.specs.Entries.{write_at}
use Rattle.tk_report.specs.Exchange.{frames_before}
use Rattle.tk_report.specs.Groups.{IsGroup}
use Rattle.tk_report.specs.Turns.{placed_before}
use Rattle.tk_privacy.specs.declared.server_sights.Seen.{Seen}
use Rattle.tk_privacy.specs.declared.server_view.Viewed.{Viewed}
use Rattle.tk_privacy.specs.Hiding.{read_in}

-- the frame of a client's read in a turn, where these are the read frames of all turns
abbrev pub frame_in : Shape → List ReadFrame → ℕ → ℕ → List (List ℕ)
frame_in shape reads g c = read_frame (read_in shape reads g c) ∷ []

-- the frames of a run before turn g, of its entries and of these reads, and those of the whole run
abbrev pub viewed_before : Script → WordBook → History → List ReadFrame → ℕ → List (List ℕ)
viewed_before S b H reads g =
    frames_before S.shape H (write_at S (words_of S.shape b)) (frame_in S.shape reads) g

abbrev pub all_viewed : Script → WordBook → History → List ReadFrame → List (List ℕ)
all_viewed S b H reads = viewed_before S b H reads (turn_count S.shape)

-- after these entries, which are in order, as many were counted
pub record HasSeenEntries (shape : Shape) (E : List Placed) (seen : Seen) : Type 0 where
  pub order : IsOrder shape E
  pub count : seen.entries ≡ length E

-- after the first the frames of the second were seen
pub record HasEntered (was : Seen) (shape : Shape) (E F : List Placed) (is : Seen) : Type 0 where
  pub order : IsOrder shape (E ++ F)
  pub count : is.entries ≡ length (E ++ F)
  pub frames : is.frames.items ≡ was.frames.items ++ map placed_frame F

-- before turn g all is as the definitions say of it, and the frames so far are those of its entries
-- and of these reads
pub record IsViewBefore (S : Script) (b : WordBook) (H : History) (reads : List ReadFrame) (g : ℕ)
    (v : Viewed) : Type 0 where
  pub group : IsGroup S (known_first S) g v.group
  pub entered : HasSeenEntries S.shape (placed_before S (words_of S.shape b) H g) v.seen
  pub frames : v.seen.frames.items ≡ viewed_before S b H reads g
