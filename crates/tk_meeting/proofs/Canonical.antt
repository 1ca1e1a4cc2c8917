-- What the serial run has each client send and each server tell.
use Rattle.tk_meeting.proofs.Terms.{◌≡◌, ℕ, ◌≤◌, ◌<◌, min, List, [], ◌∷◌, length, map, flat_map, range_with_len}
use Rattle.tk_meeting.proofs.Terms.{turn_count, WordBook, words_of, Placed, ReadFrame, WriteFrame, serial_history}
use Rattle.tk_meeting.proofs.Terms.{History, Script, Writing, with_text, write_at, entries, read_at, Seat, seat_of}
use Rattle.tk_meeting.proofs.Terms.{told_of, turns_read, reply_told, epoch_told, epoch_bytes, Saying}

abbrev pub serial : Script → History
serial S = serial_history S.shape

-- the write of client c in turn g, and its read from server j
abbrev pub write_in : Script → WordBook → ℕ → ℕ → WriteFrame
write_in S b c g = write_at S (words_of S.shape b) g c

abbrev pub read_from : Script → WordBook → ℕ → ℕ → ℕ → ReadFrame
read_from S b c j g = read_at S b (serial S) g c j

-- all entries
abbrev pub whole : Script → WordBook → List Placed
whole S b = entries S (words_of S.shape b) (serial S)

-- ---- servers

-- the seat of client c at server j with its first n writes and its first k reads
abbrev pub seat_with : Script → WordBook → ℕ → ℕ → ℕ → ℕ → Seat
seat_with S b c j n k =
    record {
      writes = map (write_in S b c) (range_with_len 0 n);
      reads = map (read_from S b c j) (range_with_len 0 k);
    }

-- seats of server j with the first writes and reads of each client
pub record AreFronts (S : Script) (b : WordBook) (j : ℕ) (writes reads : ℕ → ℕ) (seats : List Seat)
    : Type 0 where
  pub counted : length seats ≡ S.shape.clients
  pub each : (c : ℕ) → c < S.shape.clients →
      seat_of seats c ≡ seat_with S b c j (writes c) (reads c)
  pub writes_in : (c : ℕ) → c < S.shape.clients → writes c ≤ turn_count S.shape
  pub reads_in : (c : ℕ) → c < S.shape.clients → reads c ≤ turn_count S.shape

-- server j's reply to client c's read of turn g, and what it tells of epoch e
abbrev pub reply_in : Script → WordBook → ℕ → ℕ → ℕ → List ℕ
reply_in S b c j g = reply_told S.shape (whole S b) (read_from S b c j g)

abbrev pub epoch_in : Script → WordBook → ℕ → List ℕ
epoch_in S b e = epoch_bytes S.shape (whole S b) e

-- what server j tells client c of turn g, where epoch n is the newest
abbrev pub told_in_turn : Script → WordBook → ℕ → ℕ → ℕ → ℕ → List (List ℕ)
told_in_turn S b c j n g = told_of S.shape (whole S b) n (read_from S b c j g)

-- and of the first k turns, as far as their epochs are there
unfoldable pub stream : Script → WordBook → ℕ → ℕ → ℕ → ℕ → List (List ℕ)
stream S b c j n k =
    flat_map (told_in_turn S b c j n) (range_with_len 0 (min k (turns_read S.shape n)))

-- ---- clients

-- texts are said to a client, one after the other
unfoldable pub with_sayings : List Saying → Writing → Writing
with_sayings [] writing = writing
with_sayings (y ∷ ys) writing = with_sayings ys (with_text y.log y.text writing)

-- the marks of epoch e, and of the epochs up to it
abbrev pub marks_in : Script → WordBook → ℕ → List ℕ
marks_in S b e = (epoch_told S.shape (whole S b) e).marks

abbrev pub telling_of : Script → WordBook → ℕ → List (List ℕ)
telling_of S b e = map (marks_in S b) (range_with_len 1 e)
