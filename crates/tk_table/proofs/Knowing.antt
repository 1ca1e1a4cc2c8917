-- The buckets of each entry stay known when the oldest write leaves and when another comes.
use Rattle.std.proofs.Common.{◌≡◌, ℕ, ◌<◌, ◌⊎◌, inl, inr, refl, ap, sym, ◌∙◌, subst, arith}
use Rattle.std.proofs.Common.{List, [], ◌∷◌, ◌++◌, length, set, true, false, cond, eq-eqb}
use Rattle.std.specs.Prelude.{◌==◌, Option, Some, None}
use Rattle.std.specs.List.{All}
use Rattle.std.proofs.lemmas.Bool.{cases_lt, ne_eqb}
use Rattle.std.proofs.lemmas.List.{set_past, get_or_past}
use Rattle.std.proofs.lemmas.List.Elements.{All-weaker, All-head, All-tail}
use Rattle.tk_place.specs.Place.{Spot, Reached, lowest_empty, search_end}
use Rattle.tk_bucket.specs.Table.{empty_slot}
use Rattle.tk_table.specs.Table.{Slot, SlotTable, bucket_at, slot_at, with_slot, is_empty}
use Rattle.tk_table.specs.Table.{others_from, shifted, moved_up, placed_at, placed_in}
use Rattle.tk_table.specs.Steps.{cleared, cleared_all}
use Rattle.tk_table.specs.Inside.{pair_beside, IsKnown, EachHas, HasPair}
use Rattle.tk_table.proofs.Buckets.{each-with_slot, each-map}

-- ---- the oldest leaves

oldest-has : (p : ℕ) (q : ℕ × ℕ) (ps : List ℕ) (qs : List (ℕ × ℕ)) (s : Slot) →
    IsKnown (p ∷ ps) (q ∷ qs) s → HasPair p q s
oldest-has p q ps qs s (inl e) at = inl e
oldest-has p q ps qs s (inr found) at =
    let here : Some q ≡ Some (s.first, s.second) =
    ap (λ t. cond t (Some q) (pair_beside ps qs s.position)) (sym (eq-eqb s.position p at)) ∙ found
    in
    inr (sym (cc here))

left-known : (block p : ℕ) (q : ℕ × ℕ) (ps : List ℕ) (qs : List (ℕ × ℕ)) (s : Slot) →
    IsKnown (p ∷ ps) (q ∷ qs) s → IsKnown ps qs (cleared block p s)
left-known block p q ps qs s h =
    elim (s.position == p) as (λ t. (is_empty s ≡ true)
    ⊎ (cond t (Some q) (pair_beside ps qs s.position) ≡ Some (s.first, s.second)) →
    IsKnown ps qs (cond t (empty_slot block) s))
    [ true ↦ λ _. inl refl | false ↦ λ h. h ] h

pub oldest_known : (p : ℕ) (q : ℕ × ℕ) (ps : List ℕ) (qs : List (ℕ × ℕ)) (T : SlotTable) →
    EachHas (IsKnown (p ∷ ps) (q ∷ qs)) T → EachHas (HasPair p q) T
oldest_known p q ps qs T known b =
    All-weaker (IsKnown (p ∷ ps) (q ∷ qs)) (HasPair p q) (oldest-has p q ps qs) (bucket_at T b)
    (known b)

pub rest_known : (block p : ℕ) (q : ℕ × ℕ) (ps : List ℕ) (qs : List (ℕ × ℕ)) (T : SlotTable) →
    EachHas (IsKnown (p ∷ ps) (q ∷ qs)) T → EachHas (IsKnown ps qs) (cleared_all block p T)
rest_known block p q ps qs T known =
    each-map (λ _. IsKnown ps qs) (cleared block p) T (λ b.
    All-weaker (IsKnown (p ∷ ps) (q ∷ qs)) (λ s. IsKnown ps qs (cleared block p s))
    (left-known block p q ps qs) (bucket_at T b) (known b))

-- ---- another comes

module _ (P : Slot → Type 0) (nothing : P (empty_slot 0)) where
  each-set : (T : SlotTable) (at : Spot) (s : Slot) → EachHas P T → P s →
      EachHas P (with_slot T at s)
  each-set T at s each new =
      elim (cases_lt at.0 (length T)) [
        | inl low ↦ each-with_slot (λ _. P) T at s low each new
        | inr past ↦ subst (EachHas P)
            (sym (set_past T at.0 (set (bucket_at T at.0) at.1 s) past)) each
      ]

  at-slot : (T : SlotTable) (at : Spot) → EachHas P T → P (slot_at T at)
  at-slot T at each =
      elim (cases_lt at.1 (length (bucket_at T at.0))) [
        | inl low ↦ each at.0 at.1 (empty_slot 0) low
        | inr past ↦ subst P (sym (get_or_past (bucket_at T at.0) at.1 (empty_slot 0) past)) nothing
      ]

  each-shifted : (T : SlotTable) (free : Spot) (ats : List Spot) (s : Slot) → EachHas P T → P s →
      EachHas P (shifted T free ats s)
  each-shifted T free [] s each new = each-set T free s each new
  each-shifted T free (at ∷ ats) s each new =
      each-shifted (with_slot T free (slot_at T at)) at ats s
      (each-set T free (slot_at T at) each (at-slot T at each)) new

  each-moved_up : (T : SlotTable) (s : Slot) (p : Reached) (o : Option ℕ) → EachHas P T → P s →
      EachHas P (moved_up T s p o)
  each-moved_up T s p None each new = each
  each-moved_up T s p (Some i) each new = each-shifted T (p.bucket, i) p.through s each new

  each-placed_at : (T : SlotTable) (s : Slot) (o : Option Reached) → EachHas P T → P s →
      EachHas P (placed_at T s o)
  each-placed_at T s None each new = each
  each-placed_at T s (Some p) each new =
      each-moved_up T s p (lowest_empty (others_from 0 T) p.bucket) each new

  pub each-placed_in : (T : SlotTable) (s : Slot) → EachHas P T → P s → EachHas P (placed_in T s)
  each-placed_in T s each new =
      each-placed_at T s (search_end (others_from 0 T) (s.first, s.second)) each new

-- what is kept beside a position stays
beside-front : (ps : List ℕ) (qs : List (ℕ × ℕ)) (p : ℕ) (q : ℕ × ℕ) (x : ℕ) (v : ℕ × ℕ) →
    pair_beside ps qs x ≡ Some v → pair_beside (ps ++ p ∷ []) (qs ++ q ∷ []) x ≡ Some v
beside-front [] qs p q x v h = absurd (cc h)
beside-front (y ∷ ps) [] p q x v h = absurd (cc h)
beside-front (y ∷ ps) (r ∷ qs) p q x v h =
    elim (x == y) as (λ t. cond t (Some r) (pair_beside ps qs x) ≡ Some v →
    cond t (Some r) (pair_beside (ps ++ p ∷ []) (qs ++ q ∷ []) x) ≡ Some v)
    [ true ↦ λ h. h | false ↦ λ h. beside-front ps qs p q x v h ] h

beside-last : (ps : List ℕ) (qs : List (ℕ × ℕ)) (p : ℕ) (q : ℕ × ℕ) → length qs ≡ length ps →
    All (λ x. x < p) ps → pair_beside (ps ++ p ∷ []) (qs ++ q ∷ []) p ≡ Some q
beside-last [] [] p q long above =
    ap (λ t. cond t (Some q) (pair_beside [] [] p)) (eq-eqb p p refl)
beside-last [] (r ∷ qs) p q long above = absurd (omega (arith, long))
beside-last (y ∷ ps) [] p q long above = absurd (omega (arith, long))
beside-last (y ∷ ps) (r ∷ qs) p q long above =
    let low : y < p = All-head (λ x. x < p) y ps above in
    ap (λ t. cond t (Some r) (pair_beside (ps ++ p ∷ []) (qs ++ q ∷ []) p))
    (ne_eqb p y (λ e. omega (arith, e, low)))
    ∙ beside-last ps qs p q (omega (arith, long)) (All-tail (λ x. x < p) y ps above)

-- a write with a higher position than all before it, and its buckets
pub one_more_known : (ps : List ℕ) (qs : List (ℕ × ℕ)) (T : SlotTable) (s : Slot) (q : ℕ × ℕ) →
    length qs ≡ length ps → All (λ x. x < s.position) ps → (s.first, s.second) ≡ q →
    EachHas (IsKnown ps qs) T →
    EachHas (IsKnown (ps ++ s.position ∷ []) (qs ++ q ∷ [])) (placed_in T s)
one_more_known ps qs T s q long above same known =
    let more = ps ++ s.position ∷ [] in
    let pairs = qs ++ q ∷ [] in
    each-placed_in (IsKnown more pairs) (inl refl) T s (λ b.
    All-weaker (IsKnown ps qs) (IsKnown more pairs) still (bucket_at T b) (known b))
    (inr (beside-last ps qs s.position q long above ∙ ap (λ x. Some x) (sym same)))
  where
    still : (x : Slot) → IsKnown ps qs x →
        IsKnown (ps ++ s.position ∷ []) (qs ++ q ∷ []) x
    still x (inl e) = inl e
    still x (inr found) =
        inr (beside-front ps qs s.position q x.position (x.first, x.second) found)
