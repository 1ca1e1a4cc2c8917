-- Where a search has no end, all that it reached is full, and nothing fits.
use Rattle.std.proofs.Common.{◌≡◌, ℕ, zero, suc, ◌+◌, ◌<◌, ◌≤◌, List, [], ◌∷◌, ◌++◌, length, Bool, true, false, cond, ◌&&◌, ◌||◌, ◌==◌, get_or, replicate, refl, ap, ap₂, sym, ◌∙◌, arith, eqb-true, true≢false, subst, Option, Some, None, All, IsSome, IsSomeAnd, IsTrue, find, count_by, is_some}
use Rattle.std.proofs.lemmas.List.{length-replicate}
use Rattle.std.proofs.lemmas.List.Elements.{All-head, All-tail, All-from_get_or}
use Rattle.std.proofs.lemmas.List.Sums.{sum_by-cons, sum_by-append}
use Rattle.std.proofs.Math.Bool.{or-true}
use Rattle.tk_place.specs.Chain.{IsBlocked}
use Rattle.tk_place.specs.Place.{Others, Reached, slots_of, lowest_empty, has_bucket, named_in, not_before, first_level, levels_from, reached, search_end, fit}
use Rattle.tk_place.specs.Pairs.{pairs_in, pairs_from, pairs_with}
use Rattle.tk_place.specs.Queue.{AreDistinct}
use Rattle.tk_place.specs.Table.{slot_at, IsBelow, IsTable}
use Rattle.tk_place.proofs.Crowds.{room, is_within, AreBelow, not_placeable}
use Rattle.tk_place.proofs.Ends.{has_room, named_by, names, distinct_first, distinct_next, entry_of_full}
use Rattle.tk_place.proofs.Levels.{AreNamedIn, levels_closed, not_before-covers, in_front}
use Rattle.tk_place.proofs.Reaching.{has-append, eqb-self, few_distinct}

-- ---- what was reached

pub closed : (T : Others) (depth : ℕ) (new : ℕ × ℕ) → IsTable depth T → new.0 < length T → new.1 < length T → AreNamedIn T (reached T new) (reached T new)
closed T depth new table a b =
    levels_closed T (AreDistinct (length T)) (λ ps ds. few_distinct (length T) ps ds)
    (λ done level ds. distinct_next T (done ++ level) level table.named ds)
    (length T) [] (first_level new) (distinct_first (length T) new a b) (λ c h. absurd (true≢false (sym h))) (omega arith)

named_has : (p : Reached) (i k other : ℕ) (slots : List (Option ℕ)) → get_or slots k None ≡ Some other → has_bucket (named_in p i slots) other ≡ true
named_has p i k other [] e = absurd cc
named_has p i zero other (None ∷ slots) e = absurd cc
named_has p i (suc k) other (None ∷ slots) e = named_has p (i + 1) k other slots e
named_has p i zero other (Some x ∷ slots) e =
    let same : x ≡ other = cc in
    ap (λ x. (other == x) || has_bucket (named_in p (i + 1) slots) other) same ∙ ap (λ s. s || has_bucket (named_in p (i + 1) slots) other) (eqb-self other)
named_has p i (suc k) other (Some x ∷ slots) e =
    ap (λ s. (other == x) || s) (named_has p (i + 1) k other slots e) ∙ or-true (other == x)

names_has : (T : Others) (places : List Reached) (b k other : ℕ) → has_bucket places b ≡ true → slot_at T b k ≡ Some other → has_bucket (names T places) other ≡ true
names_has T [] b k other h e = absurd (true≢false (sym h))
names_has T (p ∷ places) b k other h e =
    has-append (named_by T p) (names T places) other
    ∙ elim (b == p.bucket) as (λ s. (b == p.bucket) ≡ s → (s || has_bucket places b) ≡ true → (has_bucket (named_by T p) other || has_bucket (names T places) other) ≡ true) [
      | true ↦ λ same _.
          ap (λ s. s || has_bucket (names T places) other) (named_has p 0 k other (slots_of T p.bucket) (ap (λ b. slot_at T b k) (sym (eqb-true b p.bucket same)) ∙ e))
      | false ↦ λ _ h. ap (λ s. has_bucket (named_by T p) other || s) (names_has T places b k other h e) ∙ or-true (has_bucket (named_by T p) other)
    ] refl h

no_room : (T : Others) (places : List Reached) (b : ℕ) → find (has_room T) places ≡ None → has_bucket places b ≡ true → lowest_empty T b ≡ None
no_room T [] b e h = absurd (true≢false (sym h))
no_room T (p ∷ places) b e h =
    elim (has_room T p) as (λ r. has_room T p ≡ r → cond r (Some p) (find (has_room T) places) ≡ None → lowest_empty T b ≡ None) [
      | true ↦ λ _ e. absurd cc
      | false ↦ λ none e.
          elim (b == p.bucket) as (λ s. (b == p.bucket) ≡ s → (s || has_bucket places b) ≡ true → lowest_empty T b ≡ None) [
            | true ↦ λ same _. ap (lowest_empty T) (eqb-true b p.bucket same) ∙ none_of (lowest_empty T p.bucket) none
            | false ↦ λ _ h. no_room T places b e h
          ] refl h
    ] refl e
  where
    none_of : (o : Option ℕ) → is_some o ≡ false → o ≡ None
    none_of None e = refl
    none_of (Some x) e = absurd (true≢false e)

first_reached : (T : Others) (n : ℕ) (before level : List Reached) (b : ℕ) → has_bucket level b ≡ true → has_bucket (levels_from T n before level) b ≡ true
unfolding levels_from
first_reached T zero before level b h = h
first_reached T (suc n) before level b h =
    let next = not_before before (names T level) in
    in_front level (levels_from T n (before ++ next) next) b h

pub blocked : (T : Others) (depth : ℕ) (new : ℕ × ℕ) → IsTable depth T → new.0 < length T → new.1 < length T → search_end T new ≡ None → IsBlocked T new
unfolding search_end
blocked T depth new table a b none =
    let own : List Reached = record { bucket = new.0; through = [] } ∷ record { bucket = new.1; through = [] } ∷ [] in
    record {
      first = first_reached T (length T) (first_level new) (first_level new) new.0
          (not_before-covers [] own new.0 (ap (λ s. s || ((new.0 == new.1) || false)) (eqb-self new.0)));
      second = first_reached T (length T) (first_level new) (first_level new) new.1
          (not_before-covers [] own new.1 (ap (λ s. (new.1 == new.0) || (s || false)) (eqb-self new.1) ∙ or-true (new.1 == new.0)));
      full = λ c h. All-from_get_or (λ slot. IsSomeAnd slot (λ other. IsTrue (has_bucket (reached T new) other))) (slots_of T c) None (λ k l.
          and_named c k h (slot_at T c k) refl (entry_of_full (slots_of T c) k (no_room T (reached T new) c none h) l));
    }
  where
    and_named : (c k : ℕ) → has_bucket (reached T new) c ≡ true → (o : Option ℕ) → slot_at T c k ≡ o → IsSome o → IsSomeAnd o (λ other. IsTrue (has_bucket (reached T new) other))
    and_named c k h None e some = true≢false (sym some)
    and_named c k h (Some other) e some = closed T depth new table a b other (names_has T (reached T new) c k other h e)

-- ---- so they are crowded

-- with both buckets inside there are as many pairs as slots
pairs_inside : (inside : ℕ → Bool) (b : ℕ) (slots : List (Option ℕ)) → inside b ≡ true → All (λ slot. IsSomeAnd slot (λ other. IsTrue (inside other))) slots →
    count_by (is_within inside) (pairs_in b slots) ≡ length slots
pairs_inside inside b [] h all = refl
pairs_inside inside b (None ∷ slots) h all = absurd (All-head (λ slot. IsSomeAnd slot (λ other. IsTrue (inside other))) None slots all)
pairs_inside inside b (Some other ∷ slots) h all =
    let Full : Option ℕ → Type 0 = λ slot. IsSomeAnd slot (λ other. IsTrue (inside other)) in
    let here : inside other ≡ true = All-head Full (Some other) slots all in
    let both : is_within inside (b, other) ≡ true = ap₂ (λ s t. s && t) h here in
    let rest : count_by (is_within inside) (pairs_in b slots) ≡ length slots = pairs_inside inside b slots h (All-tail Full (Some other) slots all) in
    sum_by-cons (λ q. cond (is_within inside q) 1 0) (b, other) (pairs_in b slots) ∙ omega (arith, rest, ap {B = ℕ} (λ s. cond s 1 0) both)

room_filled : (depth : ℕ) (inside : ℕ → Bool) (b : ℕ) (T : Others) → All (λ slots. length slots ≡ depth) T →
    ((k : ℕ) → inside (b + k) ≡ true → All (λ slot. IsSomeAnd slot (λ other. IsTrue (inside other))) (slots_of T k)) →
    room depth inside b (replicate (length T) 0) ≤ count_by (is_within inside) (pairs_from b T)
room_filled depth inside b [] sized full = omega arith
room_filled depth inside b (slots ∷ T) sized full =
    let Sized : List (Option ℕ) → Type 0 = λ slots. length slots ≡ depth in
    let long : length slots ≡ depth = All-head Sized slots T sized in
    let rest : room depth inside (suc b) (replicate (length T) 0) ≤ count_by (is_within inside) (pairs_from (suc b) T) =
    room_filled depth inside (suc b) T (All-tail Sized slots T sized) (λ k h. full (suc k) (ap inside (omega arith) ∙ h)) in
    let all = sum_by-append (λ q. cond (is_within inside q) 1 0) (pairs_in b slots) (pairs_from (suc b) T) in
    elim (inside b) as (λ s. inside b ≡ s → cond s depth 0 + room depth inside (suc b) (replicate (length T) 0) ≤ count_by (is_within inside) (pairs_from b (slots ∷ T))) [
      | true ↦ λ h. omega (arith, all, rest, long, pairs_inside inside b slots h (full 0 (ap inside (omega arith) ∙ h)))
      | false ↦ λ h. omega (arith, all, rest)
    ] refl

pairs_in_below : (n b : ℕ) (slots : List (Option ℕ)) (rest : List (ℕ × ℕ)) → b < n → All (IsBelow n) slots → AreBelow n rest → AreBelow n (pairs_in b slots ++ rest)
pairs_in_below n b [] rest l h r = r
pairs_in_below n b (None ∷ slots) rest l h r = pairs_in_below n b slots rest l (All-tail (IsBelow n) None slots h) r
pairs_in_below n b (Some other ∷ slots) rest l h r =
    (l, All-head (IsBelow n) (Some other) slots h, pairs_in_below n b slots rest l (All-tail (IsBelow n) (Some other) slots h) r)

pairs_below : (n b : ℕ) (T : Others) → b + length T ≤ n → All (All (IsBelow n)) T → AreBelow n (pairs_from b T)
pairs_below n b [] l h = tt
pairs_below n b (slots ∷ T) l h =
    pairs_in_below n b slots (pairs_from (suc b) T) (omega arith) (All-head (All (IsBelow n)) slots T h)
    (pairs_below n (suc b) T (omega arith) (All-tail (All (IsBelow n)) slots T h))

pub nothing_fits : (T : Others) (depth : ℕ) (new : ℕ × ℕ) → IsTable depth T → new.0 < length T → new.1 < length T → search_end T new ≡ None →
    fit (length T) depth (pairs_with T new) ≡ false
nothing_fits T depth new table a b none =
    let is = blocked T depth new table a b none in
    let inside : ℕ → Bool = has_bucket (reached T new) in
    let counts : List ℕ = replicate (length T) 0 in
    let long : length counts ≡ length T = length-replicate {A = ℕ} (length T) 0 in
    let filled = room_filled depth inside 0 T table.sized (λ k h. is.full k (ap inside (omega arith) ∙ h)) in
    let both : is_within inside new ≡ true = ap₂ (λ s t. s && t) is.first is.second in
    let all = sum_by-cons (λ q. cond (is_within inside q) 1 0) new (pairs_from 0 T) in
    not_placeable depth inside counts (pairs_with T new)
    (subst (λ n. AreBelow n (pairs_with T new)) (sym long) (a, b, pairs_below (length T) 0 T (omega arith) table.named))
    (omega (arith, filled, all, ap {B = ℕ} (λ s. cond s 1 0) both))
