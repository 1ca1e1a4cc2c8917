-- A changed tape is bytes where the tape is.
use Rattle.std.proofs.Common.{◌≡◌, ℕ, ◌+◌, ◌-◌, ◌*◌, ◌/◌, ◌%◌, ◌<◌, Bool, true, false, cond, List, []}
use Rattle.std.proofs.Common.{◌∷◌, ◌++◌, length, map, take, drop, replicate, refl, subst, arith}
use Rattle.std.proofs.Common.{inl, inr, Option, Some, None, ltb-true}
use Rattle.std.specs.Prelude.{slice_index_or, nat_lt, IsTrue}
use Rattle.std.specs.List.{range_with_len, concat, list_all}
use Rattle.std.specs.Str.{is_utf8, IsUtf8, encode_utf8_all, all_scalars}
use Rattle.std.specs.Char.{encode_utf8}
use Rattle.std.proofs.Math.Utf8.{scalar, next, scalar_cases}
use Rattle.std.proofs.lemmas.Bool.{and_parts}
use Rattle.std.proofs.lemmas.Str.{IsUtf8-from_is_utf8}
use Rattle.std.proofs.lemmas.List.Elements.{All-set, All-map, All-weaker}
use Rattle.tk_counts.proofs.Offers.{AreBytes, no_bytes, byte-cons, bytes-append, bytes-take}
use Rattle.tk_counts.proofs.Offers.{bytes-drop, bytes-zeros, bytes-flat_map, bytes-xor}
use Rattle.tk_counts.proofs.Offers.{AllBytes, bytes-concat, bytes-pieces, bytes-at, bytes-last_share}
use Rattle.tk_shape.specs.declared.shape.Shape.{Shape}
use Rattle.tk_shape.specs.Lengths.{turn_count, cell_len, read_cell_len, vector_len, seed_len, piece_len}
use Rattle.tk_kernel.specs.Xor.{xor_bytes}
use Rattle.tk_bits.specs.Shares.{last_share}
use Rattle.tk_seal.specs.Texts.{is_printable, is_allowed}
use Rattle.tk_seal.specs.Seal.{plain}
use Rattle.tk_script.specs.declared.script.Script.{Script}
use Rattle.tk_script.specs.Sent.{Sending, sent, sent_as, writer_of}
use Rattle.tk_script.proofs.Offers.{sent-is, sent_as-is}
use Rattle.tk_words.specs.Words.{write_cell, read_cell, keyed_cell, cell_words, cell_block, cell_pad}
use Rattle.tk_words.specs.Words.{cell_tag, cell_sealed, BothBuckets, cell_pieces, piece_seed, piece_vector}
use Rattle.tk_words.specs.Words.{write_part, read_part, keyed_part, write_cells_len, read_cells_len}
use Rattle.tk_words.specs.Pieces.{piece}
use Rattle.tk_privacy.specs.Privacy.{cells, tape_of, masked_cell, shown_write_cell, shown_keyed_cell}
use Rattle.tk_privacy.specs.Privacy.{hidden_write_cell, hidden_keyed_cell, with_vector, with_hidden}
use Rattle.tk_privacy.specs.Privacy.{changed_read, shown_read_cell, Pairs, read_cell_for, normal_for}
use Rattle.tk_privacy.specs.Privacy.{regained, with_reads_for, unnormal_for}

-- ---- texts

bytes-encode : (c : ℕ) → c < 1114112 → AreBytes (encode_utf8 c)
unfolding encode_utf8
bytes-encode c low = by (nat_lt c 128) (nat_lt c 2048) (nat_lt c 65536) refl refl refl
  where
    last : (n : ℕ) → AreBytes (next n ∷ [])
    last n = byte-cons (next n) [] (omega arith) no_bytes

    by : (one two three : Bool) → nat_lt c 128 ≡ one → nat_lt c 2048 ≡ two →
        nat_lt c 65536 ≡ three →
        AreBytes (cond one (c ∷ []) (cond two ((192 + c / 64) ∷ next c ∷ [])
        (cond three ((224 + c / 4096) ∷ next (c / 64) ∷ next c ∷ [])
        ((240 + c / 262144) ∷ next (c / 4096) ∷ next (c / 64) ∷ next c ∷ []))))
    by true two three e f g = byte-cons c [] (omega (arith, ltb-true c 128 e)) no_bytes
    by false true three e f g =
        byte-cons (192 + c / 64) (next c ∷ []) (omega (arith, ltb-true c 2048 f)) (last c)
    by false false true e f g =
        byte-cons (224 + c / 4096) (next (c / 64) ∷ next c ∷ [])
        (omega (arith, ltb-true c 65536 g))
        (byte-cons (next (c / 64)) (next c ∷ []) (omega arith) (last c))
    by false false false e f g =
        byte-cons (240 + c / 262144) (next (c / 4096) ∷ next (c / 64) ∷ next c ∷ [])
        (omega (arith, low))
        (byte-cons (next (c / 4096)) (next (c / 64) ∷ next c ∷ []) (omega arith)
        (byte-cons (next (c / 64)) (next c ∷ []) (omega arith) (last c)))

bytes-encodes : (cs : List ℕ) → all_scalars cs ≡ true → AreBytes (encode_utf8_all cs)
bytes-encodes [] are = no_bytes
bytes-encodes (c ∷ cs) are =
    let parts = and_parts (scalar c) (all_scalars cs) are in
    let low : c < 1114112 = elim (scalar_cases c parts.0) [
      | inl h ↦ omega (arith, h)
      | inr h ↦ h.1
    ] in
    bytes-append (encode_utf8 c) (encode_utf8_all cs) (bytes-encode c low)
    (bytes-encodes cs parts.1)

-- what may be sent is bytes
pub bytes-allowed : (text : List ℕ) → IsTrue (is_allowed text) → AreBytes text
bytes-allowed text allowed =
    let utf8 : IsUtf8 text = IsUtf8-from_is_utf8 text
    (and_parts (is_utf8 text) (list_all is_printable text) allowed).0 in
    subst AreBytes utf8.1.1 (bytes-encodes utf8.0 utf8.1.0)

bytes-plain : (size : ℕ) (text : List ℕ) → AreBytes text → AreBytes (plain size text)
bytes-plain size text are =
    let rest : List ℕ = text ++ replicate (size - 2 - length text) 0 in
    byte-cons (length text / 256 % 256) (length text % 256 ∷ rest) (omega arith)
    (byte-cons (length text % 256) rest (omega arith)
    (bytes-append text (replicate (size - 2 - length text) 0) are
    (bytes-zeros (size - 2 - length text))))

-- ---- cells

bytes-masked : (shape : Shape) (text cell : List ℕ) → AreBytes text → AreBytes cell →
    AreBytes (masked_cell shape text cell)
unfolding masked_cell
bytes-masked shape text cell are these =
    let block : AreBytes (cell_block shape cell) = bytes-drop (8 + 4 * shape.hits) cell these in
    let pad : List ℕ = cell_pad shape cell in
    bytes-append (cell_words shape cell) (cell_sealed shape cell text)
    (bytes-take (8 + 4 * shape.hits) cell these)
    (bytes-append (xor_bytes pad (plain (length pad) text)) (cell_tag shape cell)
    (bytes-xor pad (plain (length pad) text)
    (bytes-take (shape.block - 16) (cell_block shape cell) block)
    (bytes-plain (length pad) text are))
    (bytes-drop (shape.block - 16) (cell_block shape cell) block))

bytes-with_vector : (shape : Shape) (h : ℕ) (vector : List ℕ) (ps : List (List ℕ)) →
    AreBytes vector → AllBytes ps → AllBytes (with_vector shape h vector ps)
bytes-with_vector shape h vector ps are all =
    let own : List ℕ = slice_index_or ps (h - 1) [] in
    All-set AreBytes ps (h - 1) (piece_seed shape own ++ vector)
    (bytes-append (piece_seed shape own) vector
    (bytes-take (seed_len shape) own (bytes-at ps (h - 1) all)) are) all

bytes-with_hidden : (shape : Shape) (h bucket : ℕ) (ps : List (List ℕ)) → AllBytes ps →
    AllBytes (with_hidden shape h bucket ps)
bytes-with_hidden shape h bucket ps all =
    let vectors : List (List ℕ) = map (piece_vector shape) ps in
    bytes-with_vector shape h (last_share (vector_len shape) bucket vectors) ps
    (bytes-last_share (vector_len shape) bucket vectors
    (All-map AreBytes (piece_vector shape) ps
    (All-weaker AreBytes (λ p. AreBytes (piece_vector shape p))
    (λ p is. bytes-drop (seed_len shape) p is) ps all))) all

bytes-changed_read : (shape : Shape) (h : ℕ) (pair : ℕ × ℕ) (cell : List ℕ) → AreBytes cell →
    AreBytes (changed_read shape h pair cell)
unfolding changed_read
bytes-changed_read shape h pair cell are =
    let each = shape.servers - 1 in
    let size = piece_len shape in
    let bytes : List ℕ = drop 8 cell in
    let both : BothBuckets = cell_pieces shape cell in
    let rest : AreBytes bytes = bytes-drop 8 cell are in
    let first : List (List ℕ) = with_hidden shape h pair.0 both.first in
    let second : List (List ℕ) = with_hidden shape h pair.1 both.second in
    bytes-append (take 8 cell) (concat first ++ concat second) (bytes-take 8 cell are)
    (bytes-append (concat first) (concat second)
    (bytes-concat first
    (bytes-with_hidden shape h pair.0 both.first (bytes-pieces size each bytes rest)))
    (bytes-concat second
    (bytes-with_hidden shape h pair.1 both.second
    (bytes-pieces size each (drop (each * size) bytes) (bytes-drop (each * size) bytes rest)))))

bytes-shown_read : (shape : Shape) (h : ℕ) (pair : ℕ × ℕ) (cell : List ℕ) → AreBytes cell →
    AreBytes (shown_read_cell shape h pair cell)
bytes-shown_read shape h pair cell are =
    elim (nat_lt h shape.servers) as (λ b. AreBytes (cond b (changed_read shape h pair cell) cell)) [
      | true ↦ bytes-changed_read shape h pair cell are
      | false ↦ are
    ]

-- ---- tapes

bytes-piece : (size i : ℕ) (xs : List ℕ) → AreBytes xs → AreBytes (piece size i xs)
bytes-piece size i xs are =
    bytes-take size (drop (i * size) xs) (bytes-drop (i * size) xs are)

bytes-tape_of : (shape : Shape) (write read keyed : ℕ → ℕ → List ℕ) →
    ((g c : ℕ) → AreBytes (write g c)) → ((g c : ℕ) → AreBytes (read g c)) →
    ((log s : ℕ) → AreBytes (keyed log s)) → AreBytes (tape_of shape write read keyed)
unfolding tape_of
bytes-tape_of shape write read keyed writes reads keyeds =
    let rows = λ (n m : ℕ) (cell : ℕ → ℕ → List ℕ). cells n (λ g. cells m (cell g)) in
    let wrote : List ℕ = rows (turn_count shape) shape.clients write in
    let asked : List ℕ = rows (turn_count shape) shape.clients read in
    let sealed : List ℕ = rows shape.logs (turn_count shape) keyed in
    bytes-append wrote (asked ++ sealed)
    (bytes-rows (turn_count shape) shape.clients write writes)
    (bytes-append asked sealed (bytes-rows (turn_count shape) shape.clients read reads)
    (bytes-rows shape.logs (turn_count shape) keyed keyeds))
  where
    bytes-rows : (n m : ℕ) (cell : ℕ → ℕ → List ℕ) → ((g c : ℕ) → AreBytes (cell g c)) →
        AreBytes (cells n (λ g. cells m (cell g)))
    bytes-rows n m cell each =
        bytes-flat_map (λ g. cells m (cell g))
        (λ g. bytes-flat_map (cell g) (each g) (range_with_len 0 m)) (range_with_len 0 n)

module _ (S : Script) (u : List ℕ) (are : AreBytes u) where
  bytes-write : (g c : ℕ) → AreBytes (write_cell S.shape u g c)
  bytes-write g c =
      bytes-piece (cell_len S.shape) (g * S.shape.clients + c) (write_part S.shape u)
      (bytes-take (write_cells_len S.shape) u are)

  bytes-read : (g c : ℕ) → AreBytes (read_cell S.shape u g c)
  bytes-read g c =
      bytes-piece (read_cell_len S.shape) (g * S.shape.clients + c) (read_part S.shape u)
      (bytes-take (read_cells_len S.shape) (drop (write_cells_len S.shape) u)
      (bytes-drop (write_cells_len S.shape) u are))

  bytes-keyed : (log s : ℕ) → AreBytes (keyed_cell S.shape u log s)
  bytes-keyed log s =
      bytes-piece (cell_len S.shape) (log * turn_count S.shape + s) (keyed_part S.shape u)
      (bytes-drop (write_cells_len S.shape + read_cells_len S.shape) u are)

  -- what is sent is bytes
  bytes-sent : (g c : ℕ) (y : Sending) → sent S g c ≡ Some y → AreBytes y.text
  bytes-sent g c y e = bytes-allowed y.text (sent-is S g c y e).sealable.allowed

  bytes-shown_write : (g c : ℕ) (o : Option Sending) → sent S g c ≡ o →
      AreBytes (shown_write_cell S.shape u g c o)
  bytes-shown_write g c None e = bytes-write g c
  bytes-shown_write g c (Some y) e =
      bytes-masked S.shape y.text (keyed_cell S.shape u y.log y.number) (bytes-sent g c y e)
      (bytes-keyed y.log y.number)

  bytes-shown_keyed : (c log s : ℕ) (o : Option Sending) →
      AreBytes (shown_keyed_cell S.shape u c log s o)
  bytes-shown_keyed c log s None = bytes-keyed log s
  bytes-shown_keyed c log s (Some y) = bytes-write y.turn c

  bytes-hidden_write : (g c : ℕ) (o : Option Sending) → AreBytes (hidden_write_cell S.shape u g c o)
  bytes-hidden_write g c None = bytes-write g c
  bytes-hidden_write g c (Some y) = bytes-keyed y.log y.number

  bytes-hidden_keyed : (log s : ℕ) (o : Option Sending) → sent_as S log s ≡ o →
      AreBytes (hidden_keyed_cell S.shape u (writer_of S log) log s o)
  bytes-hidden_keyed log s None e = bytes-keyed log s
  bytes-hidden_keyed log s (Some y) e =
      bytes-masked S.shape y.text (write_cell S.shape u y.turn (writer_of S log))
      (bytes-sent y.turn (writer_of S log) y (sent_as-is S log s y e).sends)
      (bytes-write y.turn (writer_of S log))

  -- a changed tape is bytes
  pub bytes-normal_for : (h : ℕ) (pairs : Pairs) → AreBytes (normal_for S h pairs u)
  unfolding normal_for
  bytes-normal_for h pairs =
      bytes-tape_of S.shape (λ g c. shown_write_cell S.shape u g c (sent S g c))
      (read_cell_for S.shape h pairs u)
      (λ log s. shown_keyed_cell S.shape u (writer_of S log) log s (sent_as S log s))
      (λ g c. bytes-shown_write g c (sent S g c) refl)
      (λ g c. bytes-shown_read S.shape h (pairs g c) (read_cell S.shape u g c) (bytes-read g c))
      (λ log s. bytes-shown_keyed (writer_of S log) log s (sent_as S log s))

  bytes-regained : AreBytes (regained S u)
  unfolding regained
  bytes-regained =
      bytes-tape_of S.shape (λ g c. hidden_write_cell S.shape u g c (sent S g c))
      (read_cell S.shape u)
      (λ log s. hidden_keyed_cell S.shape u (writer_of S log) log s (sent_as S log s))
      (λ g c. bytes-hidden_write g c (sent S g c)) bytes-read
      (λ log s. bytes-hidden_keyed log s (sent_as S log s) refl)

-- and so is one of which the change is undone
pub bytes-unnormal_for : (S : Script) (v : List ℕ) → AreBytes v → (h : ℕ) (pairs : Pairs) →
    AreBytes (unnormal_for S h pairs v)
unfolding with_reads_for
bytes-unnormal_for S v are h pairs =
    let r : List ℕ = regained S v in
    let these : AreBytes r = bytes-regained S v are in
    bytes-tape_of S.shape (write_cell S.shape r) (read_cell_for S.shape h pairs r)
    (keyed_cell S.shape r) (bytes-write S r these)
    (λ g c. bytes-shown_read S.shape h (pairs g c) (read_cell S.shape r g c)
    (bytes-read S r these g c))
    (bytes-keyed S r these)
