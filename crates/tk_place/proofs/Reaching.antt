-- Places in a queue, each bucket once.
use Rattle.std.proofs.Common.{◌≡◌, ℕ, zero, suc, ◌+◌, ◌<◌, ◌≤◌, ◌≢◌, List, [], ◌∷◌, ◌++◌, length, Bool, true, false, cond, ◌||◌, ◌==◌, refl, ap, ap₂, sym, ◌∙◌, arith, append_assoc, append-nil, true≢false, eqb-true, subst}
use Rattle.std.proofs.lemmas.Bool.Decides.{nat_tests}
use Rattle.std.proofs.Math.Bool.{or-false, or_comm}
use Rattle.tk_place.specs.Place.{Reached, has_bucket, not_before}
use Rattle.tk_place.specs.Queue.{AreDistinct}
use Rattle.tk_place.specs.Views.{place_at}

-- ---- tests

pub or_assoc : (a b c : Bool) → (a || (b || c)) ≡ ((a || b) || c)
or_assoc true b c = refl
or_assoc false b c = refl

pub eqb-self : (b : ℕ) → (b == b) ≡ true
eqb-self b = grind (arith, nat_tests)

pub eqb-other : (a b : ℕ) → a ≢ b → (a == b) ≡ false
eqb-other a b h = grind (arith, nat_tests)

-- ---- has_bucket

pub has-append : (xs ys : List Reached) (b : ℕ) → has_bucket (xs ++ ys) b ≡ (has_bucket xs b || has_bucket ys b)
has-append [] ys b = refl
has-append (x ∷ xs) ys b =
    ap (λ r. (b == x.bucket) || r) (has-append xs ys b) ∙ or_assoc (b == x.bucket) (has_bucket xs b) (has_bucket ys b)

pub has-push : (xs : List Reached) (x : Reached) (b : ℕ) → has_bucket (xs ++ x ∷ []) b ≡ ((b == x.bucket) || has_bucket xs b)
has-push xs x b =
    has-append xs (x ∷ []) b ∙ ap (λ r. has_bucket xs b || r) (or-false (b == x.bucket)) ∙ or_comm (has_bucket xs b) (b == x.bucket)

-- ---- not_before

-- the same buckets stand in both
abbrev pub HaveSame : List Reached → List Reached → Type 0
HaveSame xs ys = (b : ℕ) → has_bucket xs b ≡ has_bucket ys b

pub not_before-same : (xs ys ps : List Reached) → HaveSame xs ys → not_before xs ps ≡ not_before ys ps
not_before-same xs ys [] same = refl
not_before-same xs ys (p ∷ ps) same =
    let kept : not_before xs ps ≡ not_before ys ps = not_before-same xs ys ps same in
    let more : not_before (p ∷ xs) ps ≡ not_before (p ∷ ys) ps =
    not_before-same (p ∷ xs) (p ∷ ys) ps (λ b. ap (λ r. (b == p.bucket) || r) (same b)) in
    ap (λ s. cond s (not_before xs ps) (p ∷ not_before (p ∷ xs) ps)) (same p.bucket)
    ∙ ap₂ (λ us vs. cond (has_bucket ys p.bucket) us (p ∷ vs)) kept more

-- a place in front is as good as one at the end
pub not_before-push : (xs : List Reached) (x : Reached) (ps : List Reached) → not_before (x ∷ xs) ps ≡ not_before (xs ++ x ∷ []) ps
not_before-push xs x ps = not_before-same (x ∷ xs) (xs ++ x ∷ []) ps (λ b. sym (has-push xs x b))

pub not_before-append : (before xs ys : List Reached) →
    not_before before (xs ++ ys) ≡ not_before before xs ++ not_before (before ++ not_before before xs) ys
not_before-append before [] ys = rw append-nil refl
not_before-append before (x ∷ xs) ys =
    elim (has_bucket before x.bucket) as (λ s.
    cond s (not_before before (xs ++ ys)) (x ∷ not_before (x ∷ before) (xs ++ ys)) ≡
    cond s (not_before before xs) (x ∷ not_before (x ∷ before) xs)
    ++ not_before (before ++ cond s (not_before before xs) (x ∷ not_before (x ∷ before) xs)) ys) [
      | true ↦ not_before-append before xs ys
      | false ↦
          let M = not_before (x ∷ before) xs in
          let same : HaveSame ((x ∷ before) ++ M) (before ++ x ∷ M) =
          λ b. has-append (x ∷ before) M b ∙ ap (λ r. r || has_bucket M b) (or_comm (b == x.bucket) (has_bucket before b))
          ∙ sym (or_assoc (has_bucket before b) (b == x.bucket) (has_bucket M b)) ∙ sym (has-append before (x ∷ M) b) in
          ap (λ r. x ∷ r) (not_before-append (x ∷ before) xs ys ∙ ap (λ r. M ++ r) (not_before-same ((x ∷ before) ++ M) (before ++ x ∷ M) ys same))
    ]

-- the first of them, and then the others
pub queued_first : (before : List Reached) (x : Reached) (xs : List Reached) →
    before ++ not_before before (x ∷ xs) ≡ (before ++ not_before before (x ∷ [])) ++ not_before (before ++ not_before before (x ∷ [])) xs
queued_first before x xs = ap (λ r. before ++ r) (not_before-append before (x ∷ []) xs) ∙ sym (append_assoc before (not_before before (x ∷ [])) (not_before (before ++ not_before before (x ∷ [])) xs))

-- each of the places is such a one
abbrev pub AllOf : (Reached → Type 0) → List Reached → Type 0
AllOf P [] = Unit {0}
AllOf P (p ∷ ps) = P p × AllOf P ps

pub AllOf-append : (P : Reached → Type 0) (xs ys : List Reached) → AllOf P xs → AllOf P ys → AllOf P (xs ++ ys)
AllOf-append P [] ys h k = k
AllOf-append P (x ∷ xs) ys h k = (h.0, AllOf-append P xs ys h.1 k)

-- What holds of the places so far, and goes on to hold with each new one after them, holds with all new ones.
pub kept_by : (Kept : List Reached → Type 0) (IsNew : Reached → Type 0) →
    ((ps : List Reached) (p : Reached) → Kept ps → IsNew p → has_bucket ps p.bucket ≡ false → Kept (ps ++ p ∷ [])) →
    (before ps : List Reached) → Kept before → AllOf IsNew ps → Kept (before ++ not_before before ps)
kept_by Kept IsNew more before [] kept new = rw append-nil kept
kept_by Kept IsNew more before (p ∷ ps) kept new =
    elim (has_bucket before p.bucket) as (λ s. has_bucket before p.bucket ≡ s → Kept (before ++ cond s (not_before before ps) (p ∷ not_before (p ∷ before) ps))) [
      | true ↦ λ e. kept_by Kept IsNew more before ps kept new.1
      | false ↦ λ e.
          let on : Kept ((before ++ p ∷ []) ++ not_before (before ++ p ∷ []) ps) =
          kept_by Kept IsNew more (before ++ p ∷ []) ps (more before p kept new.0 e) new.1 in
          let shape : (before ++ p ∷ []) ++ not_before (before ++ p ∷ []) ps ≡ before ++ p ∷ not_before (p ∷ before) ps =
          append_assoc before (p ∷ []) (not_before (before ++ p ∷ []) ps) ∙ ap (λ r. before ++ p ∷ r) (sym (not_before-push before p ps)) in
          subst Kept shape on
    ] refl

-- ---- each bucket once

pub or_first : (a b : Bool) → (a || b) ≡ false → a ≡ false
or_first true b h = h
or_first false b h = refl

pub or_second : (a b : Bool) → (a || b) ≡ false → b ≡ false
or_second true b h = absurd (true≢false h)
or_second false b h = h

pub distinct-push : (n : ℕ) (ps : List Reached) (p : Reached) → AreDistinct n ps → p.bucket < n → has_bucket ps p.bucket ≡ false → AreDistinct n (ps ++ p ∷ [])
distinct-push n [] p ds l h = (l, refl, tt)
distinct-push n (q ∷ ps) p ds l h =
    let apart : (p.bucket == q.bucket) ≡ false = or_first (p.bucket == q.bucket) (has_bucket ps p.bucket) h in
    let later : has_bucket ps p.bucket ≡ false = or_second (p.bucket == q.bucket) (has_bucket ps p.bucket) h in
    let other : (q.bucket == p.bucket) ≡ false = grind (arith, nat_tests) in
    (ds.0, has-push ps p q.bucket ∙ rw (other, ds.1) refl, distinct-push n ps p ds.2 l later)

pub below_of_distinct : (n : ℕ) (ps : List Reached) (k : ℕ) → AreDistinct n ps → k < length ps → (place_at ps k).bucket < n
below_of_distinct n [] k ds l = absurd (omega arith)
below_of_distinct n (p ∷ ps) zero ds l = ds.0
below_of_distinct n (p ∷ ps) (suc k) ds l = below_of_distinct n ps k ds.2 (omega arith)

-- how many buckets below n are among these
abbrev tally : ℕ → List Reached → ℕ
tally zero ps = 0
tally (suc n) ps = cond (has_bucket ps n) 1 0 + tally n ps

tally-le : (n : ℕ) (ps : List Reached) → tally n ps ≤ n
tally-le zero ps = omega arith
tally-le (suc n) ps =
    let rest : tally n ps ≤ n = tally-le n ps in
    elim (has_bucket ps n) as (λ s. cond s 1 0 + tally n ps ≤ suc n) [ true ↦ omega arith | false ↦ omega arith ]

tally_past : (n : ℕ) (p : Reached) (ps : List Reached) → n ≤ p.bucket → tally n (p ∷ ps) ≡ tally n ps
tally_past zero p ps l = refl
tally_past (suc n) p ps l =
    let apart : (n == p.bucket) ≡ false = eqb-other n p.bucket (omega arith) in
    rw (apart, tally_past n p ps (omega arith)) refl

tally-cons : (n : ℕ) (p : Reached) (ps : List Reached) → p.bucket < n → has_bucket ps p.bucket ≡ false → tally n (p ∷ ps) ≡ suc (tally n ps)
tally-cons zero p ps l h = absurd (omega arith)
tally-cons (suc n) p ps l h =
    elim (n == p.bucket) as (λ s. (n == p.bucket) ≡ s → cond (s || has_bucket ps n) 1 0 + tally n (p ∷ ps) ≡ suc (cond (has_bucket ps n) 1 0 + tally n ps)) [
      | true ↦ λ e.
          let same : n ≡ p.bucket = eqb-true n p.bucket e in
          let new : has_bucket ps n ≡ false = ap (has_bucket ps) same ∙ h in
          rw (new, tally_past n p ps (omega arith)) (omega arith)
      | false ↦ λ e.
          let apart : n ≢ p.bucket = λ q. true≢false (sym (eqb-self n) ∙ ap (λ m. n == m) q ∙ e) in
          rw (tally-cons n p ps (omega arith) h) (omega arith)
    ] refl

-- there are no more of them than buckets
pub few_distinct : (n : ℕ) (ps : List Reached) → AreDistinct n ps → length ps ≤ n
few_distinct n ps ds = omega (arith, tally-le n ps, all_counted n ps ds)
  where
    all_counted : (n : ℕ) (ps : List Reached) → AreDistinct n ps → length ps ≤ tally n ps
    all_counted n [] ds = omega arith
    all_counted n (p ∷ ps) ds = rw (tally-cons n p ps ds.0 ds.1) (omega (arith, all_counted n ps ds.2))
