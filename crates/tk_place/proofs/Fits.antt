-- A placement shows that the pairs fit.
use Rattle.std.proofs.Common.{◌≡◌, ℕ, zero, suc, ◌+◌, ◌<◌, ◌≤◌, List, [], ◌∷◌, length, true, false, cond, ◌==◌, nat_le, replicate, get_or, set, refl, ap, sym, ◌⊎◌, leb-true, ◌∙◌, arith, count_by, length-set, inl, inr, eqb-true, true≢false, eq-eqb, le-leb, get_or-set_same, get_or-set_other, subst}
use Rattle.std.specs.List.{list_all}
use Rattle.std.proofs.lemmas.List.{length-replicate, get_or-replicate}
use Rattle.std.proofs.lemmas.List.Sums.{sum_by-cons}
use Rattle.std.proofs.lemmas.Bool.{and_parts, or_cases}
use Rattle.std.proofs.Math.Bool.{or-true}
use Rattle.tk_place.specs.Place.{one_more, is_placeable, fit}
use Rattle.tk_place.specs.Pairs.{AreOwn, IsPlacement, HasPlacement, FitsByPlacements}

-- how many entries a bucket is given
abbrev pub given : ℕ → List ℕ → ℕ
given b places = count_by (λ c. c == b) places

pub given-cons : (b c : ℕ) (places : List ℕ) → given b (c ∷ places) ≡ cond (c == b) 1 0 + given b places
given-cons b c places = sum_by-cons (λ c. cond (c == b) 1 0) c places

all_small : (depth : ℕ) (counts : List ℕ) → ((b : ℕ) → b < length counts → get_or counts b 0 ≤ depth) → list_all (λ n. nat_le n depth) counts ≡ true
all_small depth [] h = refl
all_small depth (n ∷ counts) h =
    let here : nat_le n depth ≡ true = le-leb n depth (h 0 (omega arith)) in
    rw here (all_small depth counts (λ b l. h (suc b) (omega arith)))

get_or-one_more : (counts : List ℕ) (k b : ℕ) → b < length counts → get_or (one_more counts k) b 0 ≡ get_or counts b 0 + cond (k == b) 1 0
get_or-one_more counts k b l =
    elim (k == b) as (λ s. (k == b) ≡ s → get_or (one_more counts k) b 0 ≡ get_or counts b 0 + cond s 1 0) [
      | true ↦ λ e.
          let same : k ≡ b = eqb-true k b e in
          let At : ℕ → Type 0 = λ k. get_or (set counts k (get_or counts k 0 + 1)) b 0 ≡ get_or counts b 0 + 1 in
          subst At (sym same) (get_or-set_same counts b (get_or counts b 0 + 1) 0 l)
      | false ↦ λ e.
          get_or-set_other counts k b (get_or counts k 0 + 1) 0 (λ same. true≢false (sym (eq-eqb k b (sym same)) ∙ e)) ∙ omega arith
    ] refl

-- over what the buckets have already
placeable_by : (depth : ℕ) (counts : List ℕ) (pairs : List (ℕ × ℕ)) (places : List ℕ) → AreOwn pairs places →
    ((b : ℕ) → b < length counts → get_or counts b 0 + given b places ≤ depth) → is_placeable depth counts pairs ≡ true
unfolding is_placeable
placeable_by depth counts [] [] own h = all_small depth counts (λ b l. omega (arith, h b l))
placeable_by depth counts [] (c ∷ places) own h = absurd own
placeable_by depth counts (p ∷ pairs) [] own h = absurd own
placeable_by depth counts (p ∷ pairs) (c ∷ places) own h =
    let into = λ (k : ℕ) (e : c ≡ k). placeable_by depth (one_more counts k) pairs places own.1 (λ b l.
    let in_counts : b < length counts = omega (arith, length-set counts k (get_or counts k 0 + 1)) in
    let same : cond (c == b) 1 0 ≡ cond (k == b) 1 0 = ap {B = ℕ} (λ c. cond (c == b) 1 0) e in
    omega (arith, h b in_counts, given-cons b c places, get_or-one_more counts k b in_counts, same)) in
    elim own.0 [
      | inl e ↦ rw (into p.0 e) refl
      | inr e ↦ rw (into p.1 e) (or-true (is_placeable depth (one_more counts p.0) pairs))
    ]

pub fit_by_placement : (buckets depth : ℕ) (pairs : List (ℕ × ℕ)) (places : List ℕ) → IsPlacement buckets depth pairs places → fit buckets depth pairs ≡ true
fit_by_placement buckets depth pairs places placement =
    placeable_by depth (replicate buckets 0) pairs places placement.own (λ b l.
    let in_table : b < buckets = omega (arith, length-replicate {A = ℕ} buckets 0) in
    omega (arith, placement.within b in_table, get_or-replicate {A = ℕ} buckets b 0 0 in_table))

-- ---- and where they fit they have one

small_of : (depth : ℕ) (counts : List ℕ) (b : ℕ) → list_all (λ n. nat_le n depth) counts ≡ true → b < length counts → get_or counts b 0 ≤ depth
small_of depth [] b h l = absurd (omega arith)
small_of depth (n ∷ counts) zero h l = leb-true n depth (and_parts (nat_le n depth) (list_all (λ n. nat_le n depth) counts) h).0
small_of depth (n ∷ counts) (suc b) h l =
    small_of depth counts b (and_parts (nat_le n depth) (list_all (λ n. nat_le n depth) counts) h).1 (omega arith)

-- over what the buckets have already
record IsPlacedOver (depth : ℕ) (counts : List ℕ) (pairs : List (ℕ × ℕ)) : Type 0 where
  places : List ℕ
  own : AreOwn pairs places
  within : (b : ℕ) → b < length counts → get_or counts b 0 + given b places ≤ depth

placed_first : (depth : ℕ) (counts : List ℕ) (p : ℕ × ℕ) (pairs : List (ℕ × ℕ)) (k : ℕ) → (k ≡ p.0) ⊎ (k ≡ p.1) →
    IsPlacedOver depth (one_more counts k) pairs → IsPlacedOver depth counts (p ∷ pairs)
placed_first depth counts p pairs k own placed =
    record {
      places = k ∷ placed.places;
      own = (own, placed.own);
      within = λ b l.
          let still : b < length (one_more counts k) = omega (arith, length-set counts k (get_or counts k 0 + 1)) in
          omega (arith, placed.within b still, given-cons b k placed.places, get_or-one_more counts k b l);
    }

placed_by : (depth : ℕ) (counts : List ℕ) (pairs : List (ℕ × ℕ)) → is_placeable depth counts pairs ≡ true → IsPlacedOver depth counts pairs
unfolding is_placeable
placed_by depth counts [] h = record { places = []; own = tt; within = λ b l. omega (arith, small_of depth counts b h l) }
placed_by depth counts (p ∷ pairs) h =
    elim (or_cases (is_placeable depth (one_more counts p.0) pairs) (is_placeable depth (one_more counts p.1) pairs) h) [
      | inl e ↦ placed_first depth counts p pairs p.0 (inl refl) (placed_by depth (one_more counts p.0) pairs e)
      | inr e ↦ placed_first depth counts p pairs p.1 (inr refl) (placed_by depth (one_more counts p.1) pairs e)
    ]

pub placement_by_fit : (buckets depth : ℕ) (pairs : List (ℕ × ℕ)) → fit buckets depth pairs ≡ true → HasPlacement buckets depth pairs
placement_by_fit buckets depth pairs h =
    let placed = placed_by depth (replicate buckets 0) pairs h in (
      placed.places,
      record {
        own = placed.own;
        within = λ b l.
            let in_table : b < length (replicate {A = ℕ} buckets 0) = omega (arith, length-replicate {A = ℕ} buckets 0) in
            omega (arith, placed.within b in_table, get_or-replicate {A = ℕ} buckets b 0 0 l);
      },
    )

pub fits_by_placements : FitsByPlacements
fits_by_placements buckets depth pairs =
    (placement_by_fit buckets depth pairs, λ placement. fit_by_placement buckets depth pairs placement.0 placement.1)
