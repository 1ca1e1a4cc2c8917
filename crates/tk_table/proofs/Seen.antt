-- What a search sees of a table whose entries lie in their buckets.
use Rattle.std.proofs.Common.{◌≡◌, ℕ, zero, suc, ◌+◌, ◌⊎◌, inl, inr, refl, ap, sym, ◌∙◌, subst}
use Rattle.std.proofs.Common.{arith, true≢false, List, [], ◌∷◌, length, true, false, cond, eqb-true}
use Rattle.std.proofs.Common.{◌<◌, ◌≤◌, map, get_or}
use Rattle.std.specs.Prelude.{◌==◌, Option, Some, None, slice_index_or, is_none, position}
use Rattle.std.specs.List.{All}
use Rattle.std.proofs.lemmas.List.{length-map, get_or-map, get_or_past, get_or_default}
use Rattle.std.proofs.lemmas.Bool.{cases_lt}
use Rattle.std.proofs.lemmas.List.Quantifiers.{position-Some}
use Rattle.tk_shape.specs.declared.shape.Shape.{Shape}
use Rattle.tk_place.specs.Place.{Spot, slots_of, lowest_empty}
use Rattle.tk_table.specs.Table.{Slot, SlotTable, bucket_at, slot_at, empty_slot, is_empty, other_in, others_from}
use Rattle.tk_bucket.specs.Table.{empty_slot as empty_slot_of}
use Rattle.tk_table.proofs.Buckets.{EachSlot, IsWithin}

-- an entry whose buckets are in range and that lies in one of them
pub record IsEntryIn (buckets b : ℕ) (s : Slot) : Type 0 where
  pub position : 1 ≤ s.position
  pub first : s.first < buckets
  pub second : s.second < buckets
  pub own : (s.first ≡ b) ⊎ (s.second ≡ b)

-- a slot is empty, all zeros, or has an entry of its bucket
abbrev pub IsHome : Shape → ℕ → Slot → Type 0
IsHome shape b s = (s ≡ empty_slot shape) ⊎ IsEntryIn shape.buckets b s

pub slots_of-others : (k : ℕ) (T : SlotTable) (b : ℕ) →
    slots_of (others_from k T) b ≡ map (other_in (k + b)) (bucket_at T b)
slots_of-others k [] b = refl
slots_of-others k (slots ∷ T) zero = ap (λ n. map (other_in n) slots) (omega arith)
slots_of-others k (slots ∷ T) (suc b) =
    slots_of-others (k + 1) T b ∙ ap (λ n. map (other_in n) (bucket_at T b)) (omega arith)

pub slots_seen : (T : SlotTable) (b : ℕ) →
    slots_of (others_from 0 T) b ≡ map (other_in b) (bucket_at T b)
slots_seen T b = slots_of-others 0 T b ∙ ap (λ n. map (other_in n) (bucket_at T b)) (omega arith)

-- a bucket with slots is one of the table
bucket_within : (T : SlotTable) (b i : ℕ) → i < length (bucket_at T b) → b < length T
bucket_within T b i h =
    elim (cases_lt b (length T)) [
      | inl low ↦ low
      | inr past ↦ absurd (let none = ap length (get_or_past T b [] past) in omega (arith, none, h))
    ]

-- a slot with an entry, as the search sees it
pub record IsSeen (shape : Shape) (T : SlotTable) (at : Spot) (other : ℕ) : Type 0 where
  pub within : IsWithin T at
  pub entry : other_in at.0 (slot_at T at) ≡ Some other

pub seen : (shape : Shape) (T : SlotTable) (at : Spot) (other : ℕ) →
    slice_index_or (slots_of (others_from 0 T) at.0) at.1 None ≡ Some other →
    IsSeen shape T at other
seen shape T at other h =
    let there : get_or (map (other_in at.0) (bucket_at T at.0)) at.1 None ≡ Some other =
    ap (λ slots. get_or slots at.1 None) (sym (slots_seen T at.0)) ∙ h in
    elim (cases_lt at.1 (length (bucket_at T at.0))) [
      | inl low ↦ record {
        within = record { bucket = bucket_within T at.0 at.1 low; slot = low };
        entry = sym (get_or-map (other_in at.0) (bucket_at T at.0) at.1
            (empty_slot_of 0) None low) ∙ there;
      }
      | inr past ↦ absurd (let long = length-map (bucket_at T at.0) (other_in at.0) in
          let none = get_or_past (map (other_in at.0) (bucket_at T at.0)) at.1 None
          (omega (arith, long, past)) in cc (none, there))
    ]

-- the lowest empty slot of a bucket
pub lowest_empty-free : (shape : Shape) (T : SlotTable) (b i : ℕ) → EachSlot (IsHome shape) T →
    lowest_empty (others_from 0 T) b ≡ Some i →
    IsWithin T (b, i) × (slot_at T (b, i) ≡ empty_slot shape)
lowest_empty-free shape T b i home h =
    let there = position-Some is_none (map (other_in b) (bucket_at T b)) i None
    (ap (position is_none) (sym (slots_seen T b)) ∙ h) in
    let low : i < length (bucket_at T b) =
    omega (arith, there.0, length-map (bucket_at T b) (other_in b)) in
    let none : is_none (other_in b (slot_at T (b, i))) ≡ true =
    ap is_none (sym (get_or-map (other_in b) (bucket_at T b) i (empty_slot_of 0) None low))
    ∙ there.1 in (
      record { bucket = bucket_within T b i low; slot = low },
      zeros (slot_at T (b, i)) (home b i (empty_slot_of 0) low) none,
    )
  where
    zeros : (s : Slot) → IsHome shape b s → is_none (other_in b s) ≡ true → s ≡ empty_slot shape
    zeros s (inl e) n = e
    zeros s (inr entry) n =
        elim (is_empty s) as (λ z. (s.position == 0) ≡ z →
        is_none (cond z None (Some (cond (s.first == b) s.second s.first))) ≡ true →
        s ≡ empty_slot shape) [
          | true ↦ λ e _. absurd (let zero_position = eqb-true s.position 0 e in let low =
              entry.position in omega (arith, zero_position, low))
          | false ↦ λ e n. absurd (true≢false (sym n))
        ] refl n

pub length-others : (k : ℕ) (T : SlotTable) → length (others_from k T) ≡ length T
length-others k [] = refl
length-others k (slots ∷ T) = ap suc (length-others (k + 1) T)

-- each bucket as the search sees it
pub others-each : (P : List (Option ℕ) → Type 0) (T : SlotTable) →
    ((b : ℕ) → b < length T → P (map (other_in b) (bucket_at T b))) → All P (others_from 0 T)
others-each P T f k d low =
    let in_range : k < length T = omega (arith, low, length-others 0 T) in
    subst P (sym (get_or_default (others_from 0 T) k d [] low ∙ slots_seen T k)) (f k in_range)
