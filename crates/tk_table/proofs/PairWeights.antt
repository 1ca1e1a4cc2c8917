-- The pairs that a search sees weigh what the entries weigh.
use Rattle.std.proofs.Common.{◌≡◌, ℕ, suc, ◌+◌, inl, inr, refl, ap, sym, ◌∙◌, subst, arith}
use Rattle.std.proofs.Common.{true≢false, List, [], ◌∷◌, Bool, true, false, cond, eqb-true, map}
use Rattle.std.specs.Prelude.{◌==◌, Option, Some, None}
use Rattle.std.specs.List.{sum_by, All}
use Rattle.std.proofs.lemmas.List.Sums.{sum_by-cons, sum_by-append}
use Rattle.std.proofs.lemmas.Bool.{eqb-false}
use Rattle.std.proofs.lemmas.List.Elements.{All-head, All-tail}
use Rattle.tk_shape.specs.declared.shape.Shape.{Shape}
use Rattle.tk_frames.specs.Order.{Record}
use Rattle.tk_table.specs.Table.{Slot, SlotTable, bucket_at, is_empty, other_in, others_from, slot_of}
use Rattle.tk_table.proofs.Fitting.{IsBlind}
use Rattle.tk_table.proofs.Buckets.{EachSlot, total}
use Rattle.tk_table.proofs.Seen.{IsHome}
use Rattle.tk_place.specs.Pairs.{pairs_in, pairs_from}

-- what a slot weighs, where an empty one weighs nothing
abbrev pub entry_weight : (Slot → ℕ) → Slot → ℕ
entry_weight weight s = cond (is_empty s) 0 (weight s)

-- the entries of the table are the records
abbrev pub EntriesWeigh : SlotTable → List Record → Type 0
EntriesWeigh T K = (weight : Slot → ℕ) →
    total (entry_weight weight) T ≡ sum_by (λ r. weight (slot_of r)) K

-- the weight of a slot's pair as the search sees it
abbrev seen_weight : (ℕ × ℕ → ℕ) → ℕ → Option ℕ → ℕ
seen_weight weight b None = 0
seen_weight weight b (Some other) = weight (b, other)

pairs_in-cons : (weight : ℕ × ℕ → ℕ) (b : ℕ) (o : Option ℕ) (ss : List (Option ℕ)) →
    sum_by weight (pairs_in b (o ∷ ss)) ≡ seen_weight weight b o + sum_by weight (pairs_in b ss)
pairs_in-cons weight b None ss = omega arith
pairs_in-cons weight b (Some other) ss = sum_by-cons weight (b, other) (pairs_in b ss)

-- a slot's pair weighs as much as its entry's
seen_weight-slot : (shape : Shape) (weight : ℕ × ℕ → ℕ) → IsBlind weight → (b : ℕ) (s : Slot) →
    IsHome shape b s →
    seen_weight weight b (other_in b s) ≡ entry_weight (λ s. weight (s.first, s.second)) s
seen_weight-slot shape weight blind b s home = elim (is_empty s) as (λ z. is_empty s ≡ z →
    seen_weight weight b (cond z None (Some (cond (s.first == b) s.second s.first))) ≡ cond z 0
    (weight (s.first, s.second))) [
      | true ↦ λ _. refl
      | false ↦ λ filled. named home filled (s.first == b) refl
    ] refl
  where
    named : IsHome shape b s → is_empty s ≡ false → (t : Bool) → (s.first == b) ≡ t →
        weight (b, cond t s.second s.first) ≡ weight (s.first, s.second)
    named home filled true e = ap (λ n. weight (n, s.second)) (sym (eqb-true s.first b e))
    named (inl e) filled false apart = absurd (true≢false (sym (ap is_empty e) ∙ filled))
    named (inr entry) filled false apart =
        elim entry.own [
          | inl same ↦ absurd (eqb-false s.first b apart same)
          | inr same ↦ ap (λ n. weight (n, s.first)) (sym same) ∙ blind s.second s.first
        ]

pairs_in-weigh : (shape : Shape) (weight : ℕ × ℕ → ℕ) → IsBlind weight →
    (b : ℕ) (slots : List Slot) → All (IsHome shape b) slots →
    sum_by weight (pairs_in b (map (other_in b) slots)) ≡ sum_by
    (entry_weight (λ s. weight (s.first, s.second))) slots
pairs_in-weigh shape weight blind b [] home = refl
pairs_in-weigh shape weight blind b (s ∷ slots) home =
    let one = pairs_in-cons weight b (other_in b s) (map (other_in b) slots) in
    let here = seen_weight-slot shape weight blind b s (All-head (IsHome shape b) s slots home) in
    let rest = pairs_in-weigh shape weight blind b slots (All-tail (IsHome shape b) s slots home) in
    let other = sum_by-cons (entry_weight (λ s. weight (s.first, s.second))) s slots in
    omega (arith, one, here, rest, other)

pub pairs_from-weigh : (shape : Shape) (weight : ℕ × ℕ → ℕ) → IsBlind weight →
    (k : ℕ) (T : SlotTable) → EachSlot (λ b. IsHome shape (k + b)) T →
    sum_by weight (pairs_from k (others_from k T)) ≡ total
    (entry_weight (λ s. weight (s.first, s.second))) T
pairs_from-weigh shape weight blind k [] home = refl
pairs_from-weigh shape weight blind k (slots ∷ T) home =
    let split = sum_by-append weight (pairs_in k (map (other_in k) slots))
    (pairs_from (suc k) (others_from (k + 1) T)) in
    let here = pairs_in-weigh shape weight blind k slots
    (subst (λ n. All (IsHome shape n) slots) (omega arith) (home 0)) in
    let next = ap (λ n. sum_by weight (pairs_from n (others_from (k + 1) T))) (suc-is k) in
    let rest = pairs_from-weigh shape weight blind (k + 1) T
    (λ b. subst (λ n. All (IsHome shape n) (bucket_at T b)) (omega arith) (home (suc b))) in
    let all = sum_by-cons (λ slots. sum_by (entry_weight (λ s. weight (s.first, s.second))) slots)
    slots T in
    omega (arith, split, here, next, rest, all)
  where
    suc-is : (k : ℕ) → suc k ≡ k + 1
    suc-is k = omega arith
