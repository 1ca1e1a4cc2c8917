-- Two tapes with the same write cells and keyed cells, and the same words in front of each read
-- cell, give
-- clients the same words: what is read doesn't depend on the vectors.
use Rattle.std.proofs.Common.{◌≡◌, ℕ, zero, suc, ◌+◌, ◌*◌, ◌/◌, ◌%◌, ◌≤◌, ◌<◌, List, [], ◌++◌}
use Rattle.std.proofs.Common.{length, take, refl, ap, ap₂, sym, ◌∙◌, arith, inl, inr}
use Rattle.std.proofs.lemmas.Bool.{cases_lt}
use Rattle.std.proofs.lemmas.Nat.{div-add-mod'}
use Rattle.std.proofs.Math.Nat.{div-lt_iff_lt-mul, mod-lt, mul-le-mul_right}
use Rattle.std.proofs.Math.ListN.{drop_of_length-le}
use Rattle.tk_shape.specs.declared.shape.Shape.{Shape}
use Rattle.tk_shape.specs.Lengths.{turn_count, cell_len, read_cell_len, tape_len}
use Rattle.tk_words.specs.Pieces.{piece, word_at_byte}
use Rattle.tk_words.specs.Words.{drawn, words_of, write_cell, read_cell, keyed_cell, write_part}
use Rattle.tk_words.specs.Words.{read_part, keyed_part, cell_write, cell_pair, cell_hits, cell_pad}
use Rattle.tk_words.specs.Words.{cell_tag, fresh_pair, pair_of, hits_of, pad_of, tag_of, fresh_write}
use Rattle.tk_words.specs.CellLaws.{length-piece, place_within, length-write_part, length-read_part}
use Rattle.tk_privacy.proofs.Tapes.{same-rows, same-write_part, same-keyed_part}
use Rattle.tk_privacy.proofs.Masks.{word_in_front}

pub length-write_cell : (shape : Shape) (tape : List ℕ) (g c : ℕ) → length tape ≡ tape_len shape →
    g < turn_count shape → c < shape.clients →
    length (write_cell shape tape g c) ≡ cell_len shape
length-write_cell shape tape g c whole turn client =
    length-piece (cell_len shape) (g * shape.clients + c) (write_part shape tape)
    (rw (length-write_part shape tape whole)
    (place_within g c (turn_count shape) shape.clients (cell_len shape) turn client))

pub length-read_cell : (shape : Shape) (tape : List ℕ) (g c : ℕ) → length tape ≡ tape_len shape →
    g < turn_count shape → c < shape.clients →
    length (read_cell shape tape g c) ≡ read_cell_len shape
length-read_cell shape tape g c whole turn client =
    length-piece (read_cell_len shape) (g * shape.clients + c) (read_part shape tape)
    (rw (length-read_part shape tape whole)
    (place_within g c (turn_count shape) shape.clients (read_cell_len shape) turn client))

-- a word among the first 8 bytes
front_word : (i : ℕ) (xs ys : List ℕ) → i + 4 ≤ 8 → 8 ≤ length xs → 8 ≤ length ys → take 8 xs
    ≡ take 8 ys → word_at_byte i xs ≡ word_at_byte i ys
front_word i xs ys low long long' e =
    sym (word_in_front i 8 xs [] low long) ∙ ap (λ zs. word_at_byte i (zs ++ [])) e
    ∙ word_in_front i 8 ys [] low long'

front_pair : (shape : Shape) (xs ys : List ℕ) → 8 ≤ length xs → 8 ≤ length ys → take 8 xs
    ≡ take 8 ys → cell_pair shape xs ≡ cell_pair shape ys
front_pair shape xs ys long long' e =
    ap₂ (λ (a b : ℕ). (a % shape.buckets, b % shape.buckets))
    (front_word 0 xs ys (omega arith) long long' e) (front_word 4 xs ys (omega arith) long long' e)

-- a place beyond all cells has nothing
beyond : (size n k : ℕ) (part : List ℕ) → length part ≡ n * size → n ≤ k → piece size k part ≡ []
beyond size n k part e far =
    let most : n * size ≤ k * size = mul-le-mul_right size far in
    ap (take size) (drop_of_length-le part (omega (arith, e, most))) ∙ nothing size
  where
    nothing : (m : ℕ) → take {A = ℕ} m [] ≡ []
    nothing zero = refl
    nothing (suc m) = refl

module _ (shape : Shape) (u v : List ℕ) (whole : length u ≡ tape_len shape)
    (whole' : length v ≡ tape_len shape)
    (writes : (g c : ℕ) → g < turn_count shape → c < shape.clients → write_cell shape u g c
    ≡ write_cell shape v g c)
    (fronts : (g c : ℕ) → g < turn_count shape → c < shape.clients → take 8 (read_cell shape u g c)
    ≡ take 8 (read_cell shape v g c))
    (keyeds : (log s : ℕ) → log < shape.logs → s < turn_count shape → keyed_cell shape u log s
    ≡ keyed_cell shape v log s) where
  write_parts : write_part shape u ≡ write_part shape v
  write_parts =
      sym (same-write_part shape u whole)
      ∙ same-rows (write_cell shape u) (write_cell shape v) (turn_count shape) shape.clients writes
      ∙ same-write_part shape v whole'

  keyed_parts : keyed_part shape u ≡ keyed_part shape v
  keyed_parts =
      sym (same-keyed_part shape u whole)
      ∙ same-rows (keyed_cell shape u) (keyed_cell shape v) shape.logs (turn_count shape) keyeds
      ∙ same-keyed_part shape v whole'

  pairs_within : (g c : ℕ) → g < turn_count shape → c < shape.clients →
      cell_pair shape (read_cell shape u g c) ≡ cell_pair shape (read_cell shape v g c)
  pairs_within g c turn client =
      front_pair shape (read_cell shape u g c) (read_cell shape v g c)
      (omega (arith, length-read_cell shape u g c whole turn client))
      (omega (arith, length-read_cell shape v g c whole' turn client))
      (fronts g c turn client)

  -- wherever the place is
  pairs_at : (k : ℕ) → cell_pair shape (piece (read_cell_len shape) k (read_part shape u))
      ≡ cell_pair shape (piece (read_cell_len shape) k (read_part shape v))
  pairs_at k =
      elim (cases_lt k (turn_count shape * shape.clients)) [
        | inl low ↦
            let some : 0 < shape.clients = shape.in_range.clients_low in
            let turn : k / shape.clients < turn_count shape = (div-lt_iff_lt-mul some).1 low in
            let client : k % shape.clients < shape.clients = mod-lt k some in
            ap (λ n. cell_pair shape (piece (read_cell_len shape) n (read_part shape u)))
            (sym (div-add-mod' k shape.clients))
            ∙ pairs_within (k / shape.clients) (k % shape.clients) turn client
            ∙ ap (λ n. cell_pair shape (piece (read_cell_len shape) n (read_part shape v)))
            (div-add-mod' k shape.clients)
        | inr high ↦
            ap (cell_pair shape)
            (beyond (read_cell_len shape) (turn_count shape * shape.clients) k (read_part shape u)
            (length-read_part shape u whole) high
            ∙ sym (beyond (read_cell_len shape) (turn_count shape * shape.clients) k
            (read_part shape v) (length-read_part shape v whole') high))
      ]

  pub words-same : words_of shape (drawn u) ≡ words_of shape (drawn v)
  unfolding pair_of hits_of pad_of tag_of fresh_write fresh_pair
  words-same = λ i.
      let keyed_at : ℕ → ℕ → List ℕ =
      λ log s. piece (cell_len shape) (log * turn_count shape + s) (keyed_parts i) in
      record {
        pair = λ log s. cell_pair shape (keyed_at log s);
        hits = λ log s. cell_hits shape (keyed_at log s);
        pad = λ log s. cell_pad shape (keyed_at log s);
        tag = λ log s masked. cell_tag shape (keyed_at log s);
        fresh_write = λ g c. cell_write shape
            (piece (cell_len shape) (g * shape.clients + c) (write_parts i));
        fresh_pair = λ g c. pairs_at (g * shape.clients + c) i;
      }
