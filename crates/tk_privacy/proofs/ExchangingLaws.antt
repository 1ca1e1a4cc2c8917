-- The cells of writes, exchanged one by one.
use Rattle.std.proofs.Common.{◌≡◌, ◌∙◌, ap, ap₂, sym, ℕ, ◌+◌, List, [], ◌++◌, flat_map, length}
use Rattle.std.proofs.Common.{append_assoc, take, drop, ◌-◌, ◌*◌}
use Rattle.std.specs.List.{range_with_len}
use Rattle.std.proofs.lemmas.List.{flat_map_more}
use Rattle.tk_shape.specs.declared.shape.Shape.{Shape}
use Rattle.tk_kernel.specs.Xor.{xor_bytes}
use Rattle.tk_seal.specs.Seal.{plain}
use Rattle.tk_words.specs.Words.{cell_pad, cell_tag}
use Rattle.tk_report.proofs.Offers.{range-next}
use Rattle.tk_privacy.specs.Privacy.{masked_cell, cells}

-- one cell more, after what was there and those before it
pub next_cell : (f : ℕ → List ℕ) (n : ℕ) (old before new : List ℕ) → before ≡ old ++ cells n f →
    new ≡ before ++ f n → new ≡ old ++ cells (n + 1) f
next_cell f n old before new before_is new_is =
    new_is
    ∙ ap (λ (front : List ℕ). front ++ f n) before_is
    ∙ flat_map_more f old (range_with_len 0 n) n
    ∙ ap (λ numbers. old ++ flat_map f numbers) (sym (range-next n))

-- ---- a write cell

-- the words, the masked pad and the tag, one after the other
pub masked_parts : (shape : Shape)
    (text cell old words block pad tag masked one two three : List ℕ) →
    words ≡ take (8 + 4 * shape.hits) cell → block ≡ drop (8 + 4 * shape.hits) cell →
    pad ≡ take (shape.block - 16) block → tag ≡ drop (shape.block - 16) block →
    masked ≡ xor_bytes pad (plain (length pad) text) →
    one ≡ old ++ words → two ≡ one ++ masked → three ≡ two ++ tag →
    three ≡ old ++ masked_cell shape text cell
unfolding masked_cell
masked_parts shape text cell old words block pad tag masked one two three words_is block_is pad_is
    tag_is masked_is one_is two_is three_is =
    let pad_cell : pad ≡ cell_pad shape cell = pad_is ∙ ap (take (shape.block - 16)) block_is in
    let tag_cell : tag ≡ cell_tag shape cell = tag_is ∙ ap (drop (shape.block - 16)) block_is in
    three_is
    ∙ ap (λ (bytes : List ℕ). bytes ++ tag)
    (two_is ∙ ap (λ (bytes : List ℕ). bytes ++ masked) one_is ∙ append_assoc old words masked)
    ∙ append_assoc old (words ++ masked) tag
    ∙ ap (λ (bytes : List ℕ). old ++ bytes) (append_assoc words masked tag)
    ∙ ap₂ (λ (front back : List ℕ). old ++ (front ++ back)) words_is
    (ap₂ (λ (front back : List ℕ). front ++ back)
    (masked_is ∙ ap (λ (p : List ℕ). xor_bytes p (plain (length p) text)) pad_cell) tag_cell)

-- three parts, one after the other
pub three_parts : (none one two three a b c : List ℕ) → none ≡ [] → one ≡ none ++ a →
    two ≡ one ++ b → three ≡ two ++ c → three ≡ a ++ (b ++ c)
three_parts none one two three a b c none_is one_is two_is three_is =
    three_is
    ∙ ap (λ (bytes : List ℕ). bytes ++ c)
    (two_is ∙ ap (λ (bytes : List ℕ). bytes ++ b)
    (one_is ∙ ap (λ (bytes : List ℕ). bytes ++ a) none_is))
    ∙ append_assoc a b c
