-- The buckets of a layout are read from their bytes again, and give what was written.
use Rattle.std.proofs.Common.{◌≡◌, ℕ, zero, suc, inl, inr, refl, ap, sym, ◌∙◌, subst, arith, List}
use Rattle.std.proofs.Common.{[], ◌∷◌, ◌++◌, false, get_or}
use Rattle.std.specs.Prelude.{flat_map}
use Rattle.std.specs.List.{AllByRecursion, All}
use Rattle.std.proofs.lemmas.Bool.{ne_eqb}
use Rattle.std.proofs.lemmas.List.{length-replicate}
use Rattle.std.proofs.lemmas.List.Elements.{recursion_from_All, Contains-get_or}
use Rattle.tk_shape.specs.declared.shape.Shape.{Shape}
use Rattle.tk_frames.specs.Order.{Record}
use Rattle.tk_table.specs.Table.{Slot, SlotTable, bucket_at, empty_slot, is_empty, retained, layout}
use Rattle.tk_table.specs.Table.{slot_of, slot_bytes}
use Rattle.tk_table.specs.Ordered.{HasBuckets}
use Rattle.tk_table.specs.Laws.{IsSlotOf, IsLaidOut, IsSpellable, IsStorable, block_at}
use Rattle.tk_table.specs.Laws.{IsSpelling, BucketsReadBack, AsRead}
use Rattle.tk_frames.specs.Slots.{text_among, slots_in}
use Rattle.tk_frames.proofs.Offers.{each-both, in_from_contains, each-in}
use Rattle.tk_frames.specs.Lists.{IsIn}
use Rattle.tk_table.proofs.RetainedEach.{retained-each}
use Rattle.tk_table.proofs.LaidOut.{layout-laid_out}
use Rattle.tk_table.proofs.AsWritten.{entry-record, layout-as_written}
use Rattle.tk_table.proofs.ReadingBack.{slots-read_back}

blocks-bucket : (T : SlotTable) (b : ℕ) → block_at T b ≡ flat_map slot_bytes (bucket_at T b)
blocks-bucket [] b = refl
blocks-bucket (slots ∷ T) zero = refl
blocks-bucket (slots ∷ T) (suc b) = blocks-bucket T b

-- a record that fits its slot
abbrev FitsSlot : Shape → Record → Type 0
FitsSlot shape r = HasBuckets shape r × IsStorable shape r

record-spellable : (shape : Shape) (r : Record) → FitsSlot shape r → IsSpellable shape (slot_of r)
record-spellable shape r h =
    let few = shape.in_range.buckets_high in
    record {
      position = h.1.position;
      first = (let low = h.0.first in omega (arith, few, low));
      second = (let low = h.0.second in omega (arith, few, low));
      block = h.1.block;
    }

empty-spellable : (shape : Shape) → IsSpellable shape (empty_slot shape)
empty-spellable shape = record {
  position = omega arith;
  first = omega arith;
  second = omega arith;
  block = length-replicate shape.block 0;
}

bucket-spellable : (shape : Shape) (K : List Record) (T : SlotTable) (b : ℕ) → IsLaidOut shape K T →
    AllByRecursion (FitsSlot shape) K → AllByRecursion (IsSpellable shape) (bucket_at T b)
bucket-spellable shape K T b laid fits = recursion_from_All (IsSpellable shape) (bucket_at T b) each
  where
    one : (s : Slot) → IsIn (bucket_at T b) s → IsSlotOf shape b s → IsSpellable shape s
    one s there (inl e) = subst (IsSpellable shape) (sym e) (empty-spellable shape)
    one s there (inr entry) =
        let filled : is_empty s ≡ false = ne_eqb s.position 0 (λ e. omega (arith, e, entry.0)) in
        let from = entry-record shape K T b s laid there filled in
        subst (IsSpellable shape) from.gives
        (record-spellable shape from.origin
        (each-in (FitsSlot shape) K from.origin fits from.there))

    each : All (IsSpellable shape) (bucket_at T b)
    each k d low = one (get_or (bucket_at T b) k d)
        (in_from_contains (bucket_at T b) (get_or (bucket_at T b) k d)
        (Contains-get_or (bucket_at T b) k d low)) (laid.own b k d low)

pub layout-read_back : BucketsReadBack
layout-read_back shape R b ordered storable low =
    let laid = layout-laid_out shape R ordered in
    let fits = retained-each (FitsSlot shape) shape R
    (each-both (HasBuckets shape) (IsStorable shape) R ordered.within storable) in
    let read = slots-read_back shape (bucket_at (layout shape R) b) (laid.deep b low)
    (bucket-spellable shape (retained shape R) (layout shape R) b laid fits) in
    subst (IsSpelling shape (bucket_at (layout shape R) b))
    (sym (blocks-bucket (layout shape R) b)) read

pub layout-as_read : AsRead
layout-as_read shape R pair opens ordered storable first second =
    ap (λ slots. text_among pair opens (slots ++ slots_in shape (block_at (layout shape R) pair.1)))
    (layout-read_back shape R pair.0 ordered storable first).again
    ∙ ap (λ slots. text_among pair opens (bucket_at (layout shape R) pair.0 ++ slots))
    (layout-read_back shape R pair.1 ordered storable second).again
    ∙ layout-as_written shape R pair opens ordered
