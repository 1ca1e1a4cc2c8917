-- The change of drawn words under which one script shows what another one shows.
use Rattle.std.specs.Prelude.{ℕ, ◌-◌, nat_lt, true, cond, List, [], ◌∷◌, ◌++◌, map, take, flat_map}
use Rattle.std.specs.Prelude.{slice_index_or, slice_set, Option, Some, None}
use Rattle.std.specs.List.{range_with_len, concat}
use Rattle.tk_shape.specs.declared.shape.Shape.{Shape}
use Rattle.tk_shape.specs.Lengths.{turn_count, vector_len}
use Rattle.tk_schedule.specs.declared.history.History.{History}
use Rattle.tk_schedule.specs.Schedule.{epoch_at}
use Rattle.tk_script.specs.declared.script.Script.{Script}
use Rattle.tk_script.specs.Sent.{Sending, sent, sent_as, writer_of}
use Rattle.tk_bits.specs.Shares.{last_share}
use Rattle.tk_words.specs.Words.{WordBook, drawn, words_of, cell_words, cell_sealed, cell_write}
use Rattle.tk_words.specs.Words.{cell_pieces, piece_seed, piece_vector, write_cell, read_cell, keyed_cell}
use Rattle.tk_frames.specs.declared.read_frame.ReadFrame.{ReadFrame}
use Rattle.tk_frames.specs.Spelling.{read_frame}
use Rattle.tk_client.specs.Asked.{frame_for, seeds_told}
use Rattle.tk_client.specs.Writes.{dummy}
use Rattle.tk_report.specs.Entries.{write_at}
use Rattle.tk_report.specs.Exchange.{read_pair, frames_before}

-- ---- a tape from its cells

abbrev pub cells : ℕ → (ℕ → List ℕ) → List ℕ
cells count cell = flat_map cell (range_with_len 0 count)

-- the tape whose write cells, read cells and keyed cells are these
unfoldable pub tape_of : Shape → (ℕ → ℕ → List ℕ) → (ℕ → ℕ → List ℕ) → (ℕ → ℕ → List ℕ) → List ℕ
tape_of shape write read keyed =
    cells (turn_count shape) (λ g. cells shape.clients (write g))
    ++ (cells (turn_count shape) (λ g. cells shape.clients (read g))
    ++ cells shape.logs (λ log. cells (turn_count shape) (keyed log)))

-- ---- writes

-- A cell with the text sealed in its block: the front of the block is mixed with the plain form of
-- the text. Done twice it gives the cell again.
unfoldable pub masked_cell : Shape → List ℕ → List ℕ → List ℕ
masked_cell shape text cell = cell_words shape cell ++ cell_sealed shape cell text

-- the write cell of a client that sends: the masked keyed cell of what it sends; else the write
-- cell as it was
abbrev pub shown_write_cell : Shape → List ℕ → ℕ → ℕ → Option Sending → List ℕ
shown_write_cell shape u g c None = write_cell shape u g c
shown_write_cell shape u g c (Some y) = masked_cell shape y.text (keyed_cell shape u y.log y.number)

-- the keyed cell of a number that is sent, by client c: the write cell of the turn in which it is
-- sent
abbrev pub shown_keyed_cell : Shape → List ℕ → ℕ → ℕ → ℕ → Option Sending → List ℕ
shown_keyed_cell shape u c log s None = keyed_cell shape u log s
shown_keyed_cell shape u c log s (Some y) = write_cell shape u y.turn c

-- the write cell before that: the keyed cell of what is sent
abbrev pub hidden_write_cell : Shape → List ℕ → ℕ → ℕ → Option Sending → List ℕ
hidden_write_cell shape v g c None = write_cell shape v g c
hidden_write_cell shape v g c (Some y) = keyed_cell shape v y.log y.number

-- the keyed cell before that: the write cell, with the text's mask taken off
abbrev pub hidden_keyed_cell : Shape → List ℕ → ℕ → ℕ → ℕ → Option Sending → List ℕ
hidden_keyed_cell shape v c log s None = keyed_cell shape v log s
hidden_keyed_cell shape v c log s (Some y) = masked_cell shape y.text (write_cell shape v y.turn c)

-- ---- reads

-- piece h of these with this vector; its seed stays
abbrev pub with_vector : Shape → ℕ → List ℕ → List (List ℕ) → List (List ℕ)
with_vector shape h vector pieces =
    slice_set pieces (h - 1) (piece_seed shape (slice_index_or pieces (h - 1) []) ++ vector)

-- drawn vector h becomes the share that a last server would get of a bucket
abbrev pub with_hidden : Shape → ℕ → ℕ → List (List ℕ) → List (List ℕ)
with_hidden shape h bucket pieces =
    with_vector shape h (last_share (vector_len shape) bucket (map (piece_vector shape) pieces))
    pieces

-- a read cell with drawn vector h of each bucket so changed
unfoldable pub changed_read : Shape → ℕ → ℕ × ℕ → List ℕ → List ℕ
changed_read shape h pair cell =
    let pieces = cell_pieces shape cell in
    take 8 cell
    ++ (concat (with_hidden shape h pair.0 pieces.first)
    ++ concat (with_hidden shape h pair.1 pieces.second))

-- the same unless the hidden server is the last
abbrev pub shown_read_cell : Shape → ℕ → ℕ × ℕ → List ℕ → List ℕ
shown_read_cell shape h pair cell =
    cond (nat_lt h shape.servers) (changed_read shape h pair cell) cell

-- the two buckets of each turn's and client's read of a run
abbrev pub Pairs : Type 0
Pairs = ℕ → ℕ → ℕ × ℕ

-- the read cell of a client's turn over a tape, changed by its two buckets
abbrev pub read_cell_for : Shape → ℕ → Pairs → List ℕ → ℕ → ℕ → List ℕ
read_cell_for shape h pairs u g c = shown_read_cell shape h (pairs g c) (read_cell shape u g c)

-- those that are read with the words of a book
abbrev pub pairs_read : Script → WordBook → History → Pairs
pairs_read S b H g c = read_pair S (words_of S.shape b) H g c

-- ---- the change

-- the tape of what is shown to all servers but h where these buckets are read: it names no text and
-- no target
unfoldable pub normal_for : Script → ℕ → Pairs → List ℕ → List ℕ
normal_for S h pairs u =
    tape_of S.shape (λ g c. shown_write_cell S.shape u g c (sent S g c))
    (read_cell_for S.shape h pairs u)
    (λ log s. shown_keyed_cell S.shape u (writer_of S log) log s (sent_as S log s))

-- the write and keyed cells regained, the read cells as they are
unfoldable pub regained : Script → List ℕ → List ℕ
regained S v =
    tape_of S.shape (λ g c. hidden_write_cell S.shape v g c (sent S g c)) (read_cell S.shape v)
    (λ log s. hidden_keyed_cell S.shape v (writer_of S log) log s (sent_as S log s))

-- a tape of which the read cells alone are changed
unfoldable pub with_reads_for : Shape → ℕ → Pairs → List ℕ → List ℕ
with_reads_for shape h pairs u =
    tape_of shape (write_cell shape u) (read_cell_for shape h pairs u) (keyed_cell shape u)

-- the tape that shows this to all servers but h where these buckets are read: the writes are undone
-- first
abbrev pub unnormal_for : Script → ℕ → Pairs → List ℕ → List ℕ
unnormal_for S h pairs v = with_reads_for S.shape h pairs (regained S v)

-- the same where the buckets are those that are read over the tape, and for the second over what is
-- regained
unfoldable pub normal : Script → History → ℕ → List ℕ → List ℕ
normal S H h u = normal_for S h (pairs_read S (drawn u) H) u

unfoldable pub unnormal : Script → History → ℕ → List ℕ → List ℕ
unnormal S H h v = unnormal_for S h (pairs_read S (drawn (regained S v)) H) v

-- the tape with which B shows what A shows with u
abbrev pub mirror : Script → Script → History → ℕ → List ℕ → List ℕ
mirror A B H h u = unnormal B H h (normal A H h u)

-- ---- what is shown, without a script

-- server j's piece of a changed read: its own, and for the last server the hidden server's
abbrev pub shown_piece : Shape → ℕ → ℕ → List (List ℕ) → List ℕ
shown_piece shape h j pieces = slice_index_or pieces (cond (nat_lt j shape.servers) j h - 1) []

unfoldable pub shown_read : Shape → History → ℕ → List ℕ → ℕ → ℕ → ℕ → ReadFrame
shown_read shape H h v j g c =
    let pieces = cell_pieces shape (read_cell shape v g c) in
    let one = shown_piece shape h j pieces.first in
    let other = shown_piece shape h j pieces.second in
    record {
      client = c;
      turn = g;
      epoch = epoch_at H g c;
      first = piece_vector shape one;
      second = piece_vector shape other;
      seeds = seeds_told shape true j (piece_seed shape one ++ piece_seed shape other);
    }

-- the frames that server j, which is not h, sees: each write is a write cell, and each read a read
-- cell
unfoldable pub cells_view : Shape → History → ℕ → List ℕ → ℕ → List (List ℕ)
cells_view shape H h v j =
    frames_before shape H (λ g c. dummy g c (cell_write shape (write_cell shape v g c)))
    (λ g c. read_frame (shown_read shape H h v j g c) ∷ []) (turn_count shape)

-- ---- what is seen of a run that reads given buckets

-- the read frame that a client sends to server j in a turn for these two buckets
abbrev pub read_for : Shape → WordBook → History → ℕ × ℕ → ℕ → ℕ → ℕ → ReadFrame
read_for shape b H pair g c j = frame_for shape b g c (epoch_at H g c) pair j

-- the frames that server j sees
abbrev pub view_for : Script → WordBook → History → Pairs → ℕ → List (List ℕ)
view_for S b H pairs j =
    frames_before S.shape H (write_at S (words_of S.shape b))
    (λ g c. read_frame (read_for S.shape b H (pairs g c) g c j) ∷ []) (turn_count S.shape)
