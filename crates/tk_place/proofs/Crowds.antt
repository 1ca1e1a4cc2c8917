-- Where buckets are crowded, there is no placement.
use Rattle.std.proofs.Common.{◌≡◌, ℕ, zero, suc, ◌+◌, ◌<◌, ◌≤◌, List, [], ◌∷◌, length, Bool, true, false, cond, ◌&&◌, refl, ap, arith, count_by, add-zero, zero-add, length-set}
use Rattle.std.specs.Prelude.{nat_le}
use Rattle.std.proofs.lemmas.List.Sums.{sum_by-cons}
use Rattle.std.specs.List.{list_all}
use Rattle.tk_place.specs.Place.{one_more, is_placeable}

-- the entries that buckets of a set have, of those from bucket b on
abbrev pub load : (ℕ → Bool) → ℕ → List ℕ → ℕ
load inside b [] = 0
load inside b (n ∷ ns) = cond (inside b) n 0 + load inside (suc b) ns

-- the room that they have
abbrev pub room : ℕ → (ℕ → Bool) → ℕ → List ℕ → ℕ
room depth inside b [] = 0
room depth inside b (n ∷ ns) = cond (inside b) depth 0 + room depth inside (suc b) ns

-- both buckets of a pair are in the set
abbrev pub is_within : (ℕ → Bool) → ℕ × ℕ → Bool
is_within inside p = inside p.0 && inside p.1

crowded : (depth : ℕ) (inside : ℕ → Bool) (b : ℕ) (counts : List ℕ) → room depth inside b counts < load inside b counts → list_all (λ n. nat_le n depth) counts ≡ false
crowded depth inside b [] h = absurd (omega arith)
crowded depth inside b (n ∷ ns) h =
    elim (nat_le n depth) as (λ t. nat_le n depth ≡ t → (t && list_all (λ n. nat_le n depth) ns) ≡ false) [
      | true ↦ λ e. crowded depth inside (suc b) ns (
          elim (inside b) as (λ i. cond i depth 0 + room depth inside (suc b) ns < cond i n 0 + load inside (suc b) ns → room depth inside (suc b) ns < load inside (suc b) ns)
          [ true ↦ λ l. let m : n ≤ depth = le_of_test n depth e in omega arith | false ↦ λ l. omega arith ] h)
      | false ↦ λ e. refl
    ] refl
  where
    le_of_test : (a c : ℕ) → nat_le a c ≡ true → a ≤ c
    le_of_test a c e = search (arith, e)

room-one_more : (depth : ℕ) (inside : ℕ → Bool) (b : ℕ) (counts : List ℕ) (k : ℕ) → room depth inside b (one_more counts k) ≡ room depth inside b counts
room-one_more depth inside b [] k = refl
room-one_more depth inside b (n ∷ ns) zero = refl
room-one_more depth inside b (n ∷ ns) (suc k) = ap (λ r. cond (inside b) depth 0 + r) (room-one_more depth inside (suc b) ns k)

-- one more entry in bucket k of these adds one to the load, where that bucket is in the set
load-one_more : (inside : ℕ → Bool) (b : ℕ) (counts : List ℕ) (k : ℕ) → k < length counts →
    load inside b (one_more counts k) ≡ load inside b counts + cond (inside (b + k)) 1 0
load-one_more inside b [] k h = absurd (omega arith)
load-one_more inside b (n ∷ ns) zero h =
    rw add-zero (elim (inside b) as (λ i. cond i (n + 1) 0 + load inside (suc b) ns ≡ cond i n 0 + load inside (suc b) ns + cond i 1 0) [ true ↦ omega arith | false ↦ omega arith ])
load-one_more inside b (n ∷ ns) (suc k) h =
    let ih = load-one_more inside (suc b) ns k (omega arith) in
    let at : suc b + k ≡ b + suc k = omega arith in
    omega (arith, ih, ap {B = ℕ} (λ i. cond (inside i) 1 0) at)

-- both buckets of each pair are among these
abbrev pub AreBelow : ℕ → List (ℕ × ℕ) → Type 0
AreBelow n [] = Unit {0}
AreBelow n (p ∷ ps) = (p.0 < n) × (p.1 < n) × AreBelow n ps

within_first : (inside : ℕ → Bool) (p : ℕ × ℕ) → cond (is_within inside p) 1 0 ≤ cond (inside p.0) 1 0
within_first inside p = elim (inside p.0) as (λ i. cond (i && inside p.1) 1 0 ≤ cond i 1 0)
    [ true ↦ elim (inside p.1) as (λ i. cond i 1 0 ≤ 1) [ true ↦ omega arith | false ↦ omega arith ] | false ↦ omega arith ]

within_second : (inside : ℕ → Bool) (p : ℕ × ℕ) → cond (is_within inside p) 1 0 ≤ cond (inside p.1) 1 0
within_second inside p = elim (inside p.0) as (λ i. cond (i && inside p.1) 1 0 ≤ cond (inside p.1) 1 0)
    [ true ↦ omega arith | false ↦ omega arith ]

-- with one more entry in bucket k the load grows by as much as the pair counted, if that could lie nowhere else
still_crowded : (depth : ℕ) (inside : ℕ → Bool) (counts : List ℕ) (k w n : ℕ) → k < length counts → w ≤ cond (inside k) 1 0 →
    room depth inside 0 counts < load inside 0 counts + (w + n) → room depth inside 0 (one_more counts k) < load inside 0 (one_more counts k) + n
still_crowded depth inside counts k w n l more h =
    let loaded : load inside 0 (one_more counts k) ≡ load inside 0 counts + cond (inside (0 + k)) 1 0 = load-one_more inside 0 counts k l in
    let at : cond (inside (0 + k)) 1 0 ≡ cond (inside k) 1 0 = ap {B = ℕ} (λ i. cond (inside i) 1 0) (zero-add k) in
    rw (room-one_more, loaded, at) (omega arith)

-- Where the entries that can only lie in a set of buckets are more than its room, there is no placement.
pub not_placeable : (depth : ℕ) (inside : ℕ → Bool) (counts : List ℕ) (pairs : List (ℕ × ℕ)) → AreBelow (length counts) pairs →
    room depth inside 0 counts < load inside 0 counts + count_by (is_within inside) pairs → is_placeable depth counts pairs ≡ false
unfolding is_placeable
not_placeable depth inside counts [] below h = crowded depth inside 0 counts (omega arith)
not_placeable depth inside counts (p ∷ ps) below h =
    let w : ℕ = cond (is_within inside p) 1 0 in
    let n : ℕ = count_by (is_within inside) ps in
    let counted : count_by (is_within inside) (p ∷ ps) ≡ w + n = sum_by-cons (λ q. cond (is_within inside q) 1 0) p ps in
    let more : room depth inside 0 counts < load inside 0 counts + (w + n) = omega (arith, h, counted) in
    let first : is_placeable depth (one_more counts p.0) ps ≡ false =
    not_placeable depth inside (one_more counts p.0) ps (rw length-set below.2)
    (still_crowded depth inside counts p.0 w n below.0 (within_first inside p) more) in
    let second : is_placeable depth (one_more counts p.1) ps ≡ false =
    not_placeable depth inside (one_more counts p.1) ps (rw length-set below.2)
    (still_crowded depth inside counts p.1 w n below.1 (within_second inside p) more) in
    rw (first, second) refl
