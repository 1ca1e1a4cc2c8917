-- The table that bytes spell, slot by slot.
use Rattle.std.proofs.Common.{◌≡◌, ℕ, ◌+◌, ◌*◌, ◌/◌, ◌<◌, inl, inr, List, [], length, get_or, take}
use Rattle.std.proofs.Common.{drop, sym, ap, ◌∙◌, subst, arith}
use Rattle.std.specs.List.{All}
use Rattle.std.proofs.lemmas.Bool.{cases_lt}
use Rattle.std.proofs.lemmas.Nat.{row_fits, div-mul-add}
use Rattle.std.proofs.lemmas.List.{length-map, get_or-map, get_or_default, get_or_past}
use Rattle.tk_shape.specs.declared.shape.Shape.{Shape}
use Rattle.tk_shape.specs.Lengths.{slot_len, width}
use Rattle.tk_kernel.specs.Pieces.{pieces}
use Rattle.tk_kernel.proofs.Offers.{length-pieces, get_or-pieces}
use Rattle.tk_bucket.specs.Table.{empty_slot as empty_slot_of}
use Rattle.tk_bucket.specs.Packing.{table_in, bucket_in}
use Rattle.tk_bucket.proofs.Offers.{bucket_at-table_in, slot_at-table_in}
use Rattle.tk_frames.specs.Slots.{slot_from, slots_from}
use Rattle.tk_table.specs.Table.{Slot, bucket_at}
use Rattle.tk_table.specs.Restoring.{slots_spelled, table_spelled, slot_number}

length-slots_from : (size count : ℕ) (bytes : List ℕ) → length (slots_from size count bytes) ≡ count
length-slots_from size count bytes = length-map (pieces size count bytes) slot_from ∙ length-pieces size count bytes

module _ (shape : Shape) (bytes : List ℕ) where
  -- how many slots there are
  pub length-slots_spelled : length (slots_spelled shape bytes) ≡ shape.buckets * shape.depth
  length-slots_spelled = length-slots_from (slot_len shape) (shape.buckets * shape.depth) bytes

  -- how many buckets there are
  pub length-table_spelled : length (table_spelled shape bytes) ≡ shape.buckets
  unfolding table_in
  length-table_spelled =
      length-map (pieces (width shape) shape.buckets bytes) (bucket_in shape.depth shape.block)
      ∙ length-pieces (width shape) shape.buckets bytes

  -- how many slots a bucket has
  pub length-bucket_spelled : (b : ℕ) → b < shape.buckets →
      length (bucket_at (table_spelled shape bytes) b) ≡ shape.depth
  unfolding bucket_in
  length-bucket_spelled b low =
      ap length (bucket_at-table_in shape.buckets shape.depth shape.block b bytes low)
      ∙ length-slots_from (slot_len shape) shape.depth
      (take (width shape) (drop (b * width shape) bytes))

  -- slot n, as its bytes spell it
  pub slot_spelled : (n : ℕ) → n < shape.buckets * shape.depth →
      slot_number (slots_spelled shape bytes) n
      ≡ slot_from (take (slot_len shape) (drop (n * slot_len shape) bytes))
  slot_spelled n low =
      let len = slot_len shape in
      let count = shape.buckets * shape.depth in
      get_or-map slot_from (pieces len count bytes) n [] (empty_slot_of 0)
      (omega (arith, length-pieces len count bytes))
      ∙ ap slot_from (get_or-pieces len count n bytes [] low)

  -- a slot of a bucket is one of the row
  pub slot_in_row : (b k : ℕ) (d : Slot) → b < shape.buckets → k < shape.depth →
      get_or (bucket_at (table_spelled shape bytes) b) k d
      ≡ slot_number (slots_spelled shape bytes) (b * shape.depth + k)
  slot_in_row b k d low inner =
      let len = slot_len shape in
      let row = row_fits b shape.depth shape.buckets shape.depth low (omega arith) in
      let at : b * width shape + k * len ≡ (b * shape.depth + k) * len = omega arith in
      get_or_default (bucket_at (table_spelled shape bytes) b) k d (empty_slot_of 0)
      (omega (arith, inner, length-bucket_spelled b low))
      ∙ slot_at-table_in shape.buckets shape.depth shape.block b bytes low k inner
      ∙ ap (λ n. slot_from (take len (drop n bytes))) at
      ∙ sym (slot_spelled (b * shape.depth + k) (omega (arith, row)))

  -- what each slot of the row has, by its bucket, each slot of the table has
  pub each_spelled : (P : ℕ → Slot → Type 0) →
      ((n : ℕ) → n < shape.buckets * shape.depth → P (n / shape.depth) (slot_number (slots_spelled shape bytes) n)) →
      (b : ℕ) → All (P b) (bucket_at (table_spelled shape bytes) b)
  each_spelled P each b k d low =
      elim (cases_lt b shape.buckets) [
        | inl within ↦
            let inner : k < shape.depth = omega (arith, low, length-bucket_spelled b within) in
            let row = row_fits b shape.depth shape.buckets shape.depth within (omega arith) in
            subst (P b) (sym (slot_in_row b k d within inner))
            (subst (λ n. P n (slot_number (slots_spelled shape bytes) (b * shape.depth + k)))
            (div-mul-add b shape.depth k inner) (each (b * shape.depth + k) (omega (arith, row))))
        | inr past ↦ absurd (
            let none = ap length (get_or_past (table_spelled shape bytes) b [] (omega (arith, length-table_spelled))) in
            omega (arith, none, low))
      ]
