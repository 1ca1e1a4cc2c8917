-- What a run reads where all servers but the hidden one reply as they please, and the change of
-- drawn words under which one script shows then what another one shows.
use Rattle.std.specs.Prelude.{◌≡◌, ℕ, zero, suc, ◌<◌, true, List, length, slice_index_or, Option}
use Rattle.tk_shape.specs.declared.shape.Shape.{Shape}
use Rattle.tk_shape.specs.Lengths.{turn_count, vector_len}
use Rattle.tk_schedule.specs.declared.history.History.{History}
use Rattle.tk_schedule.specs.Schedule.{epoch_at}
use Rattle.tk_script.specs.declared.script.Script.{Script}
use Rattle.tk_bits.specs.Shares.{shares}
use Rattle.tk_words.specs.Words.{WordBook, BookWords, drawn, words_of, read_cell, for_each}
use Rattle.tk_words.specs.Words.{cell_pieces, piece_seed, piece_vector}
use Rattle.tk_frames.specs.declared.read_frame.ReadFrame.{ReadFrame}
use Rattle.tk_client.specs.Reader.{Reader, Follow, new_reader, at_epoch, after_read}
use Rattle.tk_client.specs.declared.target.Target.{Target}
use Rattle.tk_client.specs.Asked.{pair_for, frame_with}
use Rattle.tk_client.specs.Replies.{answer_in}
use Rattle.tk_client.specs.Client.{ClientState}
use Rattle.tk_report.specs.Clients.{AreClients, client_knowing}
use Rattle.tk_report.specs.Report.{follows_of, read_over, target_for}
use Rattle.tk_privacy.specs.Privacy.{Pairs, read_for, view_for, shown_read_cell, normal_for, regained, unnormal_for}
use Rattle.tk_hostile.specs.Choice.{Choice, replies_by}

-- ---- reads

-- the read frame that the hidden server gets of each turn's and client's read, for its two buckets
abbrev pub Asking : Type 0
Asking = ℕ → ℕ → ℕ × ℕ → ReadFrame

-- what the replies to a read give, where the hidden server gets this frame
abbrev pub wrong_answer :
    Script → BookWords → History → ℕ → Choice → ReadFrame → Option Target → Option (List ℕ)
wrong_answer S w H h F r t =
    answer_in S.shape w (replies_by S.shape h F (read_over S w H r.turn r.client) r) t

-- the reader after a turn, before which it is this one
abbrev pub reader_next :
    Script → BookWords → History → ℕ → Choice → Asking → ℕ → ℕ → Reader → Reader
reader_next S w H h F ask g c reader =
    let t = target_for S w H g c reader in
    after_read S.shape (at_epoch (epoch_at H g c) reader) t
    (wrong_answer S w H h F (ask g c (pair_for w g c t)) t)

-- client c as a reader before turn g, where the hidden server is asked so
unfoldable pub reader_asking :
    Script → BookWords → History → ℕ → Choice → Asking → ℕ → ℕ → Reader
reader_asking S w H h F ask c zero = new_reader (follows_of S c)
reader_asking S w H h F ask c (suc g) =
    reader_next S w H h F ask g c (reader_asking S w H h F ask c g)

-- the two buckets of its read in a turn
abbrev pub pair_asking : Script → BookWords → History → ℕ → Choice → Asking → Pairs
pair_asking S w H h F ask g c =
    pair_for w g c (target_for S w H g c (reader_asking S w H h F ask c g))

-- ---- a run under wrong replies

-- server h is asked with the words of a book
abbrev pub asks : Shape → WordBook → History → ℕ → Asking
asks shape b H h g c pair = read_for shape b H pair g c h

-- what client c knows as a reader before turn g
abbrev pub wrong_reader : Script → WordBook → History → ℕ → Choice → ℕ → ℕ → Reader
wrong_reader S b H h F c g =
    reader_asking S (words_of S.shape b) H h F (asks S.shape b H h) c g

-- the two buckets of its read in a turn
abbrev pub wrong_pair : Script → WordBook → History → ℕ → Choice → Pairs
wrong_pair S b H h F = pair_asking S (words_of S.shape b) H h F (asks S.shape b H h)

-- the frames that server j sees of a run
abbrev pub wrong_view : Script → WordBook → History → ℕ → Choice → ℕ → List (List ℕ)
wrong_view S b H h F j = view_for S b H (wrong_pair S b H h F) j

-- what each log gave to a client in the whole run
abbrev pub wrong_logs : Script → WordBook → History → ℕ → Choice → ℕ → List Follow
wrong_logs S b H h F c = (wrong_reader S b H h F c (turn_count S.shape)).follows

-- the clients at its end, and what each log gave to each
pub record AreWrongedClients (S : Script) (b : WordBook) (H : History) (h : ℕ) (F : Choice)
    (clients : List ClientState) : Type 0 where
  pub are : let turns = turn_count S.shape in
      AreClients S.shape.clients
      (client_knowing S (λ c. wrong_reader S b H h F c turns) turns) clients
  pub logs : (c : ℕ) (d : ClientState) → c < length clients →
      (slice_index_or clients c d).reader.follows ≡ wrong_logs S b H h F c

-- ---- the change, read by read

-- the tape of what is shown to all servers but h
unfoldable pub wrong_normal : Script → History → ℕ → Choice → List ℕ → List ℕ
wrong_normal S H h F u = normal_for S h (wrong_pair S (drawn u) H h F) u

-- the read frame for server j of a client's read of two buckets over epoch e, whose words are this
-- read cell
abbrev pub read_from : Shape → List ℕ → ℕ → ℕ → ℕ → ℕ × ℕ → ℕ → ReadFrame
read_from shape cell g c e pair j =
    let size = vector_len shape in
    let seeds = for_each (piece_seed shape) (cell_pieces shape cell) in
    let vectors = for_each (piece_vector shape) (cell_pieces shape cell) in
    frame_with shape true g c e (shares size pair.0 seeds.first vectors.first)
    (shares size pair.1 seeds.second vectors.second)
    j

-- the same over a tape whose writes are regained: server h's vectors are too, once the two buckets
-- are known
abbrev pub read_regained : Shape → ℕ → List ℕ → ℕ → ℕ → ℕ → ℕ × ℕ → ℕ → ReadFrame
read_regained shape h r g c e pair j =
    read_from shape (shown_read_cell shape h pair (read_cell shape r g c)) g c e pair j

-- server h is asked so
abbrev pub asks_regained : Shape → History → ℕ → List ℕ → Asking
asks_regained shape H h r g c pair = read_regained shape h r g c (epoch_at H g c) pair h

-- the two buckets of each read, found read by read over a tape whose writes are regained
abbrev pub pair_regained : Script → History → ℕ → Choice → List ℕ → Pairs
pair_regained S H h F r =
    pair_asking S (words_of S.shape (drawn r)) H h F (asks_regained S.shape H h r)

-- the tape that shows this to all servers but h: the writes are undone first
unfoldable pub wrong_unnormal : Script → History → ℕ → Choice → List ℕ → List ℕ
wrong_unnormal S H h F v = unnormal_for S h (pair_regained S H h F (regained S v)) v

-- the tape with which B shows what A shows with u
abbrev pub wrong_mirror : Script → Script → History → ℕ → Choice → List ℕ → List ℕ
wrong_mirror A B H h F u = wrong_unnormal B H h F (wrong_normal A H h F u)
