-- What a table's slots weigh, and what each of them has, when one slot is set or all are replaced.
use Rattle.std.proofs.Common.{◌≡◌, ℕ, zero, suc, ◌+◌, inl, inr, refl, ap, sym, ◌∙◌, subst, arith}
use Rattle.std.proofs.Common.{List, [], ◌∷◌, length, ◌<◌, map, set}
use Rattle.std.specs.List.{sum_by, All}
use Rattle.std.proofs.lemmas.List.Sums.{sum_by-cons, sum_by-set}
use Rattle.std.proofs.lemmas.Bool.{cases_eq}
use Rattle.std.proofs.lemmas.List.{get_or-set_same, get_or-set_other, length-set, length-map}
use Rattle.std.proofs.lemmas.List.Folds.{fold-map}
use Rattle.std.proofs.lemmas.List.Elements.{All-set, All-map}
use Rattle.tk_place.specs.Place.{Spot}
use Rattle.tk_bucket.specs.Table.{empty_slot}
use Rattle.tk_table.specs.Table.{Slot, SlotTable, bucket_at, slot_at, with_slot}

-- so many buckets of so many slots
pub record IsSized (buckets depth : ℕ) (T : SlotTable) : Type 0 where
  pub wide : length T ≡ buckets
  pub deep : (b : ℕ) → b < buckets → length (bucket_at T b) ≡ depth

-- each slot has what its bucket asks for
abbrev pub EachSlot : (ℕ → Slot → Type 0) → SlotTable → Type 0
EachSlot P T = (b : ℕ) → All (P b) (bucket_at T b)

-- what the slots weigh
abbrev pub total : (Slot → ℕ) → SlotTable → ℕ
total weight T = sum_by (λ slots. sum_by weight slots) T

-- a slot of the table
pub record IsWithin (T : SlotTable) (at : Spot) : Type 0 where
  pub bucket : at.0 < length T
  pub slot : at.1 < length (bucket_at T at.0)

-- ---- one slot is set

pub bucket-with_slot : (T : SlotTable) (at : Spot) (s : Slot) → at.0 < length T →
    bucket_at (with_slot T at s) at.0 ≡ set (bucket_at T at.0) at.1 s
bucket-with_slot T at s h = get_or-set_same T at.0 (set (bucket_at T at.0) at.1 s) [] h

pub other_bucket-with_slot : (T : SlotTable) (at : Spot) (s : Slot) (b : ℕ) → (b ≡ at.0 → ⊥) →
    bucket_at (with_slot T at s) b ≡ bucket_at T b
other_bucket-with_slot T at s b other =
    get_or-set_other T at.0 b (set (bucket_at T at.0) at.1 s) [] other

pub sized-with_slot : (buckets depth : ℕ) (T : SlotTable) (at : Spot) (s : Slot) →
    IsSized buckets depth T → IsSized buckets depth (with_slot T at s)
sized-with_slot buckets depth T at s sized =
    record {
      wide = length-set T at.0 (set (bucket_at T at.0) at.1 s) ∙ sized.wide;
      deep = λ b low. elim (cases_eq b at.0) [
        | inl e ↦ let in_range : at.0 < length T = omega (arith, low, e, sized.wide) in
            ap (λ n. length (bucket_at (with_slot T at s) n)) e
            ∙ ap length (bucket-with_slot T at s in_range)
            ∙ length-set (bucket_at T at.0) at.1 s ∙ ap (λ n. length (bucket_at T n)) (sym e)
            ∙ sized.deep b low
        | inr other ↦ ap length (other_bucket-with_slot T at s b other) ∙ sized.deep b low
      ];
    }

pub within-with_slot : (T : SlotTable) (at : Spot) (s : Slot) (to : Spot) → IsWithin T to →
    (to.0 ≡ at.0 → ⊥) → IsWithin (with_slot T at s) to
within-with_slot T at s to h other =
    record {
      bucket = subst (λ n. to.0 < n)
          (sym (length-set T at.0 (set (bucket_at T at.0) at.1 s))) h.bucket;
      slot = subst (λ slots. to.1 < length slots)
          (sym (other_bucket-with_slot T at s to.0 other)) h.slot;
    }

pub each-with_slot : (P : ℕ → Slot → Type 0) (T : SlotTable) (at : Spot) (s : Slot) →
    at.0 < length T → EachSlot P T → P at.0 s → EachSlot P (with_slot T at s)
each-with_slot P T at s in_range each new b =
    elim (cases_eq b at.0) [
      | inl e ↦ subst (λ n. All (P n) (bucket_at (with_slot T at s) n)) (sym e)
          (subst (λ slots. All (P at.0) slots) (sym (bucket-with_slot T at s in_range))
          (All-set (P at.0) (bucket_at T at.0) at.1 s new (each at.0)))
      | inr other ↦ subst (λ slots. All (P b) slots) (sym (other_bucket-with_slot T at s b other))
          (each b)
    ]

pub total-with_slot : (weight : Slot → ℕ) (T : SlotTable) (at : Spot) (s : Slot) →
    IsWithin T at →
    total weight (with_slot T at s) + weight (slot_at T at) ≡ total weight T + weight s
total-with_slot weight T at s h =
    let outer = sum_by-set (λ slots. sum_by weight slots) T at.0
    (set (bucket_at T at.0) at.1 s) [] h.bucket in
    let inner = sum_by-set weight (bucket_at T at.0) at.1 s (empty_slot 0) h.slot in
    omega (arith, outer, inner)

-- ---- each slot is replaced

pub bucket-map : (f : Slot → Slot) (T : SlotTable) (b : ℕ) →
    bucket_at (map (map f) T) b ≡ map f (bucket_at T b)
bucket-map f [] b = refl
bucket-map f (slots ∷ T) zero = refl
bucket-map f (slots ∷ T) (suc b) = bucket-map f T b

pub sized-map : (buckets depth : ℕ) (f : Slot → Slot) (T : SlotTable) → IsSized buckets depth T →
    IsSized buckets depth (map (map f) T)
sized-map buckets depth f T sized =
    record {
      wide = length-map T (map f) ∙ sized.wide;
      deep = λ b low. ap length (bucket-map f T b) ∙ length-map (bucket_at T b) f
          ∙ sized.deep b low;
    }

pub each-map : (P : ℕ → Slot → Type 0) (f : Slot → Slot) (T : SlotTable) →
    EachSlot (λ b s. P b (f s)) T → EachSlot P (map (map f) T)
each-map P f T each b = subst (λ slots. All (P b) slots) (sym (bucket-map f T b))
    (All-map (P b) f (bucket_at T b) (each b))

pub sum_by-same : {X : Type 0} (f g : X → ℕ) → ((x : X) → f x ≡ g x) → (xs : List X) →
    sum_by f xs ≡ sum_by g xs
sum_by-same f g same [] = refl
sum_by-same f g same (x ∷ xs) =
    let l = sum_by-cons f x xs in let r = sum_by-cons g x xs in let rest =
    sum_by-same f g same xs in
    omega (arith, l, r, rest, same x)

pub total-map : (weight : Slot → ℕ) (f : Slot → Slot) (T : SlotTable) →
    total weight (map (map f) T) ≡ total (λ s. weight (f s)) T
total-map weight f T =
    fold-map (λ (n : ℕ) (slots : List Slot). n + sum_by weight slots) (map f) 0 T
    ∙ sum_by-same (λ slots. sum_by weight (map f slots)) (λ slots. sum_by (λ s. weight (f s)) slots)
    (λ slots. fold-map (λ (n : ℕ) (s : Slot). n + weight s) f 0 slots) T

pub total-same : (f g : Slot → ℕ) → ((s : Slot) → f s ≡ g s) → (T : SlotTable) →
    total f T ≡ total g T
total-same f g same T = sum_by-same (λ slots. sum_by f slots) (λ slots. sum_by g slots)
    (λ slots. sum_by-same f g same slots) T
