-- A table that holds records, and one that has lost those outside the window.
use Rattle.std.proofs.Common.{◌≡◌, ℕ, ◌+◌, inl, inr, refl, ap, sym, ◌∙◌, subst, arith, List, []}
use Rattle.std.proofs.Common.{◌∷◌, length, Bool, true, false, cond, filter, ◌*◌, replicate}
use Rattle.std.specs.List.{sum_by, All}
use Rattle.std.proofs.lemmas.List.Sums.{sum_by-cons}
use Rattle.std.proofs.lemmas.Bool.{cases_lt}
use Rattle.std.proofs.lemmas.List.{get_or_past, length-replicate, get_or-replicate}
use Rattle.std.proofs.lemmas.List.Elements.{All-weaker, All-replicate, All-nil}
use Rattle.std.proofs.lemmas.List.Folds.{sum_by-replicate}
use Rattle.tk_shape.specs.declared.shape.Shape.{Shape}
use Rattle.tk_frames.specs.Order.{Record}
use Rattle.tk_table.specs.Table.{Slot, SlotTable, bucket_at, empty_slot, is_empty, has_position}
use Rattle.tk_table.specs.Table.{empty_table, slot_of, without_expired}
use Rattle.tk_table.proofs.Buckets.{IsSized, EachSlot, total, sized-map, each-map, total-map, total-same}
use Rattle.tk_table.proofs.Seen.{IsHome}
use Rattle.tk_table.proofs.PairWeights.{entry_weight, EntriesWeigh}

-- the table has its size, each slot is empty or has an entry of its bucket, and the entries are the
-- records
pub record Holds (shape : Shape) (T : SlotTable) (K : List Record) : Type 0 where
  pub sized : IsSized shape.buckets shape.depth T
  pub home : EachSlot (IsHome shape) T
  pub entries : EntriesWeigh T K

-- ---- what has left the window

filter-weigh : {X : Type 0} (test : X → Bool) (weight : X → ℕ) (xs : List X) →
    sum_by (λ x. cond (test x) (weight x) 0) xs ≡ sum_by weight (filter test xs)
filter-weigh test weight [] = refl
filter-weigh test weight (x ∷ xs) =
    let all = sum_by-cons (λ x. cond (test x) (weight x) 0) x xs in
    let rest = filter-weigh test weight xs in
    let kept = sum_by-cons weight x (filter test xs) in
    elim (test x) as (λ b. sum_by (λ x. cond (test x) (weight x) 0) (x ∷ xs) ≡ cond b
    (weight x) 0 + sum_by (λ x. cond (test x) (weight x) 0) xs →
    sum_by (λ x. cond (test x) (weight x) 0) (x ∷ xs) ≡ sum_by weight
    (cond b (x ∷ filter test xs) (filter test xs))) [
      | true ↦ λ all. omega (arith, all, rest, kept)
      | false ↦ λ all. omega (arith, all, rest)
    ] all

-- a slot is emptied where its position isn't among the window's
abbrev stays_in : Shape → List Record → Slot → Slot
stays_in shape W s = cond (has_position W s.position) s (empty_slot shape)

stays_in-weighs : (shape : Shape) (W : List Record) (weight : Slot → ℕ) (s : Slot) →
    entry_weight weight (stays_in shape W s) ≡ entry_weight
    (λ s. cond (has_position W s.position) (weight s) 0) s
stays_in-weighs shape W weight s =
    elim (has_position W s.position) as
    (λ b. entry_weight weight (cond b s (empty_slot shape)) ≡ cond (is_empty s) 0
    (cond b (weight s) 0)) [
      | true ↦ refl
      | false ↦ elim (is_empty s) as (λ z. Path ℕ 0 (cond z 0 0)) [ true ↦ refl | false ↦ refl ]
    ]

stays_in-home : (shape : Shape) (W : List Record) (b : ℕ) (s : Slot) → IsHome shape b s →
    IsHome shape b (stays_in shape W s)
stays_in-home shape W b s home =
    elim (has_position W s.position) as
    (λ t. IsHome shape b (cond t s (empty_slot shape))) [ true ↦ home | false ↦ inl refl ]

pub expired-holds : (shape : Shape) (W : List Record) (T : SlotTable) (K : List Record) →
    Holds shape T K →
    Holds shape (without_expired shape W T) (filter (λ r. has_position W r.position) K)
expired-holds shape W T K h =
    record {
      sized = sized-map shape.buckets shape.depth (stays_in shape W) T h.sized;
      home = each-map (IsHome shape) (stays_in shape W) T
          (λ b. All-weaker (IsHome shape b) (λ s. IsHome shape b (stays_in shape W s))
          (stays_in-home shape W b) (bucket_at T b) (h.home b));
      entries = λ weight.
          total-map (entry_weight weight) (stays_in shape W) T
          ∙ total-same (λ s. entry_weight weight (stays_in shape W s))
          (entry_weight (λ s. cond (has_position W s.position) (weight s) 0))
          (stays_in-weighs shape W weight) T
          ∙ h.entries (λ s. cond (has_position W s.position) (weight s) 0)
          ∙ filter-weigh (λ r. has_position W r.position) (λ r. weight (slot_of r)) K;
    }

-- ---- the empty table

pub empty_each : (P : ℕ → Slot → Type 0) (shape : Shape) → ((b : ℕ) → P b (empty_slot shape)) →
    EachSlot P (empty_table shape)
empty_each P shape nothing b =
    let slots = replicate shape.depth (empty_slot shape) in
    elim (cases_lt b shape.buckets) [
      | inl low ↦ subst (λ ss. All (P b) ss) (sym (get_or-replicate shape.buckets b slots [] low))
          (All-replicate (P b) shape.depth (empty_slot shape) (nothing b))
      | inr past ↦ subst (λ ss. All (P b) ss)
          (sym (get_or_past (empty_table shape) b []
          (omega (arith, past, length-replicate shape.buckets slots))))
          (All-nil (P b))
    ]

empty_table-home : (shape : Shape) → EachSlot (IsHome shape) (empty_table shape)
empty_table-home shape = empty_each (IsHome shape) shape (λ _. inl refl)

pub empty_table-holds : (shape : Shape) → Holds shape (empty_table shape) []
empty_table-holds shape =
    record {
      sized = record {
        wide = length-replicate shape.buckets slots;
        deep = λ b low. ap length (get_or-replicate shape.buckets b slots [] low)
            ∙ length-replicate shape.depth (empty_slot shape);
      };
      home = empty_table-home shape;
      entries = λ weight. zeros weight;
    }
  where
    slots : List Slot
    slots = replicate shape.depth (empty_slot shape)

    zeros : (weight : Slot → ℕ) → total (entry_weight weight) (empty_table shape) ≡ 0
    zeros weight =
        let outer = sum_by-replicate (λ ss. sum_by (entry_weight weight) ss) shape.buckets
        (replicate shape.depth (empty_slot shape)) in
        let inner = sum_by-replicate (entry_weight weight) shape.depth (empty_slot shape) in
        let none : sum_by (entry_weight weight) (replicate shape.depth (empty_slot shape)) ≡ 0 =
        inner ∙ omega arith in
        outer ∙ ap (λ n. shape.buckets * n) none ∙ omega arith
