-- Along a chain each entry moves to its other bucket, and nothing is lost.
use Rattle.std.proofs.Common.{◌≡◌, ℕ, ◌+◌, ◌⊎◌, inl, inr, refl, ap, sym, ◌∙◌, arith, List, [], ◌∷◌}
use Rattle.std.proofs.Common.{Bool, true, false, cond, map}
use Rattle.std.specs.Prelude.{◌==◌, Some, None, slice_index_or}
use Rattle.std.proofs.lemmas.Bool.{or_parts, eqb-false}
use Rattle.tk_shape.specs.declared.shape.Shape.{Shape}
use Rattle.tk_place.specs.Place.{Spot, slots_of}
use Rattle.tk_table.specs.Table.{Slot, SlotTable, slot_at, with_slot, empty_slot, is_empty}
use Rattle.tk_table.specs.Table.{other_in, others_from, shifted}
use Rattle.tk_bucket.specs.Table.{empty_slot as empty_slot_of}
use Rattle.tk_place.specs.Chain.{is_on, IsPath}
use Rattle.tk_table.proofs.Buckets.{IsSized, EachSlot, total, IsWithin, other_bucket-with_slot}
use Rattle.tk_table.proofs.Buckets.{sized-with_slot, within-with_slot, each-with_slot, total-with_slot}
use Rattle.tk_table.proofs.Seen.{IsEntryIn, IsHome, slots_seen, seen}

-- an entry may move to its other bucket
moved-home : (shape : Shape) (c b : ℕ) (s : Slot) → IsHome shape c s → other_in c s ≡ Some b →
    IsEntryIn shape.buckets b s
moved-home shape c b s (inl e) h =
    absurd (let none : other_in c (empty_slot shape) ≡ Some b =
    ap (other_in c) (sym e) ∙ h in cc none)
moved-home shape c b s (inr entry) h =
    record { position = entry.position; first = entry.first; second = entry.second; own = own }
  where
    named : (t : Bool) → (s.first == c) ≡ t →
        cond (is_empty s) None (Some (cond t s.second s.first)) ≡ Some b →
        (s.first ≡ b) ⊎ (s.second ≡ b)
    named true e k =
        elim (is_empty s) as (λ z. cond z None (Some s.second) ≡ Some b →
        (s.first ≡ b) ⊎ (s.second ≡ b))
        [ true ↦ λ k. absurd (cc k) | false ↦ λ k. inr (cc k) ] k
    named false e k =
        elim (is_empty s) as (λ z. cond z None (Some s.first) ≡ Some b →
        (s.first ≡ b) ⊎ (s.second ≡ b))
        [ true ↦ λ k. absurd (cc k) | false ↦ λ k. inl (cc k) ] k

    own : (s.first ≡ b) ⊎ (s.second ≡ b)
    own = named (s.first == c) refl h

through-with_slot : (T : SlotTable) (new : ℕ × ℕ) (free : Spot) (s : Slot) (b : ℕ)
    (ats : List Spot) →
    is_on ats free.0 ≡ false → IsPath (others_from 0 T) new b ats →
    IsPath (others_from 0 (with_slot T free s)) new b ats
through-with_slot T new free s b [] out h = h
through-with_slot T new free s b (at ∷ ats) out h =
    let apart = or_parts (free.0 == at.0) (is_on ats free.0) out in
    let other : at.0 ≡ free.0 → ⊥ = λ e. eqb-false free.0 at.0 apart.0 (sym e) in
    let slots : slots_of (others_from 0 (with_slot T free s)) at.0 ≡ slots_of
    (others_from 0 T) at.0 =
    slots_seen (with_slot T free s) at.0
    ∙ ap (map (other_in at.0)) (other_bucket-with_slot T free s at.0 other)
    ∙ sym (slots_seen T at.0) in (
      ap (λ ss. slice_index_or ss at.1 None) slots
          ∙ h.0,
      h.1,
      through-with_slot T new free s at.0 ats apart.1 h.2,
    )

-- What becomes of a table whose free slot is filled: it keeps its size, each entry stays in one of
-- its buckets, and the slots weigh as much as with s in the free slot.
pub record IsFilled (shape : Shape) (T : SlotTable) (free : Spot) (s : Slot)
    (T' : SlotTable) : Type 0 where
  pub sized : IsSized shape.buckets shape.depth T'
  pub home : EachSlot (IsHome shape) T'
  pub weighs : (weight : Slot → ℕ) →
      total weight T' + weight (slot_at T free) ≡ total weight T + weight s

pub shifted-filled : (shape : Shape) (T : SlotTable) (free : Spot) (ats : List Spot) (s : Slot) →
    IsSized shape.buckets shape.depth T → EachSlot (IsHome shape) T → IsWithin T free →
    ((b : ℕ) → (b ≡ s.first) ⊎ (b ≡ s.second) → IsEntryIn shape.buckets b s) →
    IsPath (others_from 0 T) (s.first, s.second) free.0 ats →
    IsFilled shape T free s (shifted T free ats s)
shifted-filled shape T free [] s sized home within new through =
    record {
      sized = sized-with_slot shape.buckets shape.depth T free s sized;
      home = each-with_slot (IsHome shape) T free s within.bucket home (inr (new free.0 through));
      weighs = λ weight. total-with_slot weight T free s within;
    }
shifted-filled shape T free (at ∷ ats) s sized home within new through =
    let moved = slot_at T at in
    let next = with_slot T free moved in
    let here = seen shape T at free.0 through.0 in
    let apart = or_parts (free.0 == at.0) (is_on ats free.0) through.1 in
    let other : at.0 ≡ free.0 → ⊥ = λ e. eqb-false free.0 at.0 apart.0 (sym e) in
    let entry = moved-home shape at.0 free.0 moved
    (home at.0 at.1 (empty_slot_of 0) here.within.slot) here.entry in
    let rest = shifted-filled shape next at ats s
    (sized-with_slot shape.buckets shape.depth T free moved sized)
    (each-with_slot (IsHome shape) T free moved within.bucket home (inr entry))
    (within-with_slot T free moved at here.within other) new
    (through-with_slot T (s.first, s.second) free moved at.0 ats apart.1 through.2) in
    let stays : slot_at next at ≡ moved =
    ap (λ slots. slice_index_or slots at.1 (empty_slot_of 0))
    (other_bucket-with_slot T free moved at.0 other) in
    record {
      sized = rest.sized;
      home = rest.home;
      weighs = λ weight. (let one = total-with_slot weight T free moved within in
          let others = rest.weighs weight in let same =
          ap weight stays in omega (arith, one, others, same));
    }
