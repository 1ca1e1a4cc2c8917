-- A text sealed in a cell's block.
use Rattle.std.proofs.Common.{◌≡◌, ℕ, zero, suc, ◌+◌, ◌-◌, ◌*◌, ◌%◌, ◌≤◌, ◌<◌, List, [], ◌∷◌, ◌++◌}
use Rattle.std.proofs.Common.{length, take, drop, map, replicate, refl, ap, ap₂, sym, ◌∙◌, arith}
use Rattle.std.proofs.Common.{length-append, length-drop, take-append-drop}
use Rattle.std.specs.List.{range_with_len}
use Rattle.std.specs.Int.{w32, from_be_bytes}
use Rattle.std.specs.Int.Bits.{xor_assoc, xor_self, xor_zero_r}
use Rattle.std.proofs.lemmas.List.{take-append-le, drop-append-le, length-take, length-take-le, length-replicate}
use Rattle.tk_shape.specs.declared.shape.Shape.{Shape}
use Rattle.tk_shape.specs.Lengths.{cell_len}
use Rattle.tk_kernel.specs.Xor.{xor_bytes}
use Rattle.tk_seal.specs.Seal.{plain}
use Rattle.tk_words.specs.Pieces.{word_at_byte}
use Rattle.tk_words.specs.Words.{cell_write, cell_pair, cell_hits, cell_sealed, cell_words}
use Rattle.tk_words.specs.Words.{cell_block, cell_pad, cell_tag}
use Rattle.tk_privacy.proofs.Tapes.{take_seam, drop_seam}
use Rattle.tk_privacy.specs.Privacy.{masked_cell}

-- a list mixed twice with one that is no shorter
xor_bytes-twice : (xs ys : List ℕ) → length xs ≤ length ys → xor_bytes (xor_bytes xs ys) ys ≡ xs
xor_bytes-twice [] ys h = refl
xor_bytes-twice (x ∷ xs) [] h = absurd (omega arith)
xor_bytes-twice (x ∷ xs) (y ∷ ys) h =
    ap₂ (λ (z : ℕ) (zs : List ℕ). z ∷ zs)
    (xor_assoc x y y ∙ ap (Rattle.std.specs.Prelude.bit_xor x) (xor_self y) ∙ xor_zero_r x)
    (xor_bytes-twice xs ys (omega arith))

length-mixed : (xs ys : List ℕ) → length xs ≤ length ys → length (xor_bytes xs ys) ≡ length xs
length-mixed [] ys h = refl
length-mixed (x ∷ xs) [] h = absurd (omega arith)
length-mixed (x ∷ xs) (y ∷ ys) h = ap suc (length-mixed xs ys (omega arith))

-- a plain form is no shorter than it should be
plain-long : (size : ℕ) (text : List ℕ) → size ≤ length (plain size text)
plain-long size text =
    let rest = replicate {A = ℕ} (size - 2 - length text) 0 in
    omega (arith, length-append text rest, length-replicate {A = ℕ} (size - 2 - length text) 0)

masked_open : (shape : Shape) (text cell : List ℕ) → masked_cell shape text cell
    ≡ cell_words shape cell ++ (xor_bytes (cell_pad shape cell)
    (plain (length (cell_pad shape cell)) text) ++ cell_tag shape cell)
unfolding masked_cell
masked_open shape text cell = refl

module _ (shape : Shape) (text cell : List ℕ) (whole : length cell ≡ cell_len shape) where
  front : ℕ
  front = 8 + 4 * shape.hits

  pad : List ℕ
  pad = cell_pad shape cell

  mixed : List ℕ
  mixed = xor_bytes pad (plain (length pad) text)

  tag : List ℕ
  tag = cell_tag shape cell

  low : 24 ≤ shape.block
  low = shape.in_range.block_low

  length-words : length (cell_words shape cell) ≡ 8 + 4 * shape.hits
  length-words = length-take-le (8 + 4 * shape.hits) cell (omega (arith, whole))

  length-block : length (cell_block shape cell) ≡ shape.block
  length-block = omega (arith, length-drop (8 + 4 * shape.hits) cell, whole)

  length-pad : length pad ≡ shape.block - 16
  unfolding pad
  length-pad = length-take-le (shape.block - 16) (cell_block shape cell)
      (omega (arith, length-block))

  length-tag : length tag ≡ 16
  unfolding tag
  length-tag = omega (
    arith,
    low,
    length-drop (shape.block - 16) (cell_block shape cell),
    length-block,
  )

  length-mixed_pad : length mixed ≡ shape.block - 16
  unfolding mixed
  length-mixed_pad = length-mixed pad (plain (length pad) text) (plain-long (length pad) text)
      ∙ length-pad

  masked_is : masked_cell shape text cell ≡ cell_words shape cell ++ (mixed ++ tag)
  unfolding masked_cell mixed pad tag
  masked_is = refl

  pub length-masked_cell : length (masked_cell shape text cell) ≡ cell_len shape
  length-masked_cell =
      ap length masked_is
      ∙ omega (
        arith,
        low,
        length-append (cell_words shape cell) (mixed ++ tag),
        length-append mixed tag,
        length-words,
        length-mixed_pad,
        length-tag,
      )

  words_masked : cell_words shape (masked_cell shape text cell) ≡ cell_words shape cell
  words_masked = ap (cell_words shape) masked_is
      ∙ take_seam (8 + 4 * shape.hits) (cell_words shape cell) (mixed ++ tag) length-words

  block_masked : cell_block shape (masked_cell shape text cell) ≡ mixed ++ tag
  block_masked = ap (cell_block shape) masked_is
      ∙ drop_seam (8 + 4 * shape.hits) (cell_words shape cell) (mixed ++ tag) length-words

  pad_masked : cell_pad shape (masked_cell shape text cell) ≡ mixed
  pad_masked = ap (take (shape.block - 16)) block_masked
      ∙ take_seam (shape.block - 16) mixed tag length-mixed_pad

  tag_masked : cell_tag shape (masked_cell shape text cell) ≡ tag
  tag_masked = ap (drop (shape.block - 16)) block_masked
      ∙ drop_seam (shape.block - 16) mixed tag length-mixed_pad

  mixed_twice : xor_bytes mixed (plain (length mixed) text) ≡ pad
  unfolding mixed
  mixed_twice =
      ap (λ n. xor_bytes (xor_bytes pad (plain (length pad) text)) (plain n text))
      (length-mixed pad (plain (length pad) text) (plain-long (length pad) text))
      ∙ xor_bytes-twice pad (plain (length pad) text) (plain-long (length pad) text)

  masked_again : masked_cell shape text (masked_cell shape text cell)
      ≡ cell_words shape (masked_cell shape text cell)
      ++ (xor_bytes (cell_pad shape (masked_cell shape text cell))
      (plain (length (cell_pad shape (masked_cell shape text cell))) text)
      ++ cell_tag shape (masked_cell shape text cell))
  masked_again = masked_open shape text (masked_cell shape text cell)

  pad_and_tag : pad ++ tag ≡ cell_block shape cell
  unfolding pad tag
  pad_and_tag = take-append-drop (shape.block - 16) (cell_block shape cell)

  -- the text is taken off again
  pub masked_twice : masked_cell shape text (masked_cell shape text cell) ≡ cell
  masked_twice =
      masked_again
      ∙ ap₂ (λ (ws bs : List ℕ). ws ++ bs) words_masked
      (ap₂ (λ (p t : List ℕ). xor_bytes p (plain (length p) text) ++ t) pad_masked tag_masked
      ∙ ap (λ p. p ++ tag) mixed_twice
      ∙ pad_and_tag)
      ∙ take-append-drop (8 + 4 * shape.hits) cell

-- ---- a write made of a masked cell

-- a word in the front of a list doesn't depend on what stands after the front
pub word_in_front : (i n : ℕ) (xs rest : List ℕ) → i + 4 ≤ n → n ≤ length xs →
    word_at_byte i (take n xs ++ rest) ≡ word_at_byte i xs
unfolding word_at_byte
word_in_front i n xs rest low high =
    ap (from_be_bytes w32) (same rest ∙ sym (same (drop n xs))
    ∙ ap (λ ys. take 4 (drop i ys)) (take-append-drop n xs))
  where
    counted : length (take n xs) ≡ n
    counted = length-take n xs ∙ omega arith

    same : (ys : List ℕ) → take 4 (drop i (take n xs ++ ys)) ≡ take 4 (drop i (take n xs))
    same ys =
        let long : 4 ≤ length (drop i (take n xs)) = rw length-drop (omega (arith, counted)) in
        ap (take 4) (drop-append-le i (take n xs) ys (omega (arith, counted)))
        ∙ take-append-le 4 (drop i (take n xs)) ys long

pub map-range_same : {X : Type 0} (f g : ℕ → X) (a n : ℕ) → ((k : ℕ) → k < a + n → f k ≡ g k) →
    map f (range_with_len a n) ≡ map g (range_with_len a n)
map-range_same f g a zero h = refl
map-range_same f g a (suc n) h =
    ap₂ (λ x xs. x ∷ xs) (h a (omega arith))
    (map-range_same f g (a + 1) n (λ k l. h k (omega arith)))

-- a masked cell is the cell with the sealed text as its block
pub cell_write-masked : (shape : Shape) (text cell : List ℕ) → length cell ≡ cell_len shape →
    cell_write shape (masked_cell shape text cell)
    ≡ record {
      first = (cell_pair shape cell).0;
      second = (cell_pair shape cell).1;
      hits = cell_hits shape cell;
      block = cell_sealed shape cell text;
    }
unfolding masked_cell
cell_write-masked shape text cell whole =
    λ i. record {
      first = word_in_front 0 front_len cell sealed_text (omega arith) h i % shape.buckets;
      second = word_in_front 4 front_len cell sealed_text (omega arith) h i % shape.buckets;
      hits = map-range_same
          (λ k. word_at_byte (8 + 4 * k) (masked_cell shape text cell) % shape.filter_bits)
          (λ k. word_at_byte (8 + 4 * k) cell % shape.filter_bits) 0 shape.hits
          (λ k l. ap (λ w. w % shape.filter_bits)
          (word_in_front (8 + 4 * k) front_len cell sealed_text (omega arith) h)) i;
      block = drop_seam front_len (take front_len cell) sealed_text
          (length-take-le front_len cell h) i;
    }
  where
    front_len : ℕ
    front_len = 8 + 4 * shape.hits

    h : 8 + 4 * shape.hits ≤ length cell
    h = omega (arith, whole)

    sealed_text : List ℕ
    sealed_text = cell_sealed shape cell text
