-- Where a search ends: one place of the queue at a time, and level by level.
use Rattle.std.proofs.Common.{◌≡◌, ℕ, zero, suc, ◌+◌, ◌-◌, ◌<◌, ◌≤◌, List, [], ◌∷◌, ◌++◌, length, Bool, true, false, cond, refl, ap, ap₂, sym, ◌∙◌, arith, append_assoc, append-nil, length-append, flat_map, find, position, is_some, is_none, IsSome, ltb, ltb-false, true≢false, Option, Some, None, All, drop, get_or, map, subst}
use Rattle.std.specs.List.{position_or_len}
use Rattle.std.specs.Option.{option_or}
use Rattle.std.proofs.lemmas.List.{drop_more, drop_all, drop-append-le, get_or_append_left, get_or-map, length-map}
use Rattle.std.proofs.lemmas.List.Elements.{All-nil, All-head, All-tail}
use Rattle.std.proofs.lemmas.List.Folds.{find-append}
use Rattle.std.proofs.lemmas.List.Sums.{fails_before_first}
use Rattle.tk_place.specs.Place.{Others, Reached, slots_of, lowest_empty, named_in, not_before, first_level, next_level, levels_from, search_end}
use Rattle.tk_place.specs.Queue.{AreDistinct}
use Rattle.tk_place.specs.Table.{IsBelow, IsTable}
use Rattle.tk_place.specs.Views.{place_at, reached_by}
use Rattle.tk_place.proofs.Reaching.{not_before-append, queued_first, few_distinct, distinct-push, AllOf, AllOf-append, kept_by}

abbrev pub has_room : Others → Reached → Bool
has_room T p = is_some (lowest_empty T p.bucket)

-- what the entries of a place's bucket name
abbrev pub named_by : Others → Reached → List Reached
named_by T p = named_in p 0 (slots_of T p.bucket)

abbrev pub names : Others → List Reached → List Reached
names T places = flat_map (named_by T) places

-- The end of a search, with the places so far and those of them that are still to be looked at. It looks at n places at most.
unfoldable pub end_from : Others → ℕ → List Reached → List Reached → Option Reached
end_from T zero before places = None
end_from T (suc n) before [] = None
end_from T (suc n) before (p ∷ places) =
    let next = not_before before (named_by T p) in
    let later = end_from T n (before ++ next) (places ++ next) in
    cond (has_room T p) (Some p) later

pub no_end : (T : Others) (n : ℕ) (before : List Reached) → end_from T n before [] ≡ None
unfolding end_from
no_end T zero before = refl
no_end T (suc n) before = refl

-- the step that finds an end
pub ends_here : (T : Others) (n : ℕ) (before : List Reached) (p : Reached) (places : List Reached) → has_room T p ≡ true →
    end_from T (suc n) before (p ∷ places) ≡ Some p
unfolding end_from
ends_here T n before p places h = rw h refl

-- the step that goes on
pub goes_on : (T : Others) (n : ℕ) (before : List Reached) (p : Reached) (places : List Reached) → has_room T p ≡ false →
    end_from T (suc n) before (p ∷ places) ≡ end_from T n (before ++ not_before before (named_by T p)) (places ++ not_before before (named_by T p))
unfolding end_from
goes_on T n before p places h = rw h refl

-- a level is looked at in a row, and what it names comes after what was there
level_taken : (T : Others) (n m : ℕ) (before level behind : List Reached) → n ≡ length level + m →
    end_from T n before (level ++ behind) ≡
    option_or (find (has_room T) level) (end_from T m (before ++ not_before before (names T level)) (behind ++ not_before before (names T level)))
level_taken T n m before [] behind e =
    let same : n ≡ m = omega arith in
    simp append-nil (ap (λ k. end_from T k before behind) same)
level_taken T zero m before (p ∷ level) behind e = absurd (omega arith)
level_taken T (suc n) m before (p ∷ level) behind e =
    elim (has_room T p) as (λ s. has_room T p ≡ s → end_from T (suc n) before (p ∷ (level ++ behind)) ≡
    option_or (cond s (Some p) (find (has_room T) level)) (end_from T m (before ++ not_before before (names T (p ∷ level))) (behind ++ not_before before (names T (p ∷ level))))) [
      | true ↦ λ h. ends_here T n before p (level ++ behind) h
      | false ↦ λ h.
          let next = not_before before (named_by T p) in
          let after = not_before (before ++ next) (names T level) in
          let whole : not_before before (names T (p ∷ level)) ≡ next ++ after = not_before-append before (named_by T p) (names T level) in
          let ih = level_taken T n m (before ++ next) level (behind ++ next) (omega arith) in
          goes_on T n before p (level ++ behind) h
          ∙ ap (end_from T n (before ++ next)) (append_assoc level behind next)
          ∙ ih
          ∙ ap (option_or (find (has_room T) level)) (
          ap₂ (end_from T m) (append_assoc before next after) (append_assoc behind next after)
          ∙ ap₂ (end_from T m) (ap (λ r. before ++ r) (sym whole)) (ap (λ r. behind ++ r) (sym whole)))
    ] refl

pub no_levels : (T : Others) (n : ℕ) (before : List Reached) → levels_from T n before [] ≡ []
unfolding levels_from
no_levels T zero before = refl
no_levels T (suc n) before = rw append-nil (no_levels T n before)

-- ---- each bucket is reached once

named_below : (n : ℕ) (from : Reached) (i : ℕ) (slots : List (Option ℕ)) → All (IsBelow n) slots → AllOf (λ p. p.bucket < n) (named_in from i slots)
named_below n from i [] h = tt
named_below n from i (None ∷ slots) h = named_below n from (i + 1) slots (All-tail (IsBelow n) None slots h)
named_below n from i (Some b ∷ slots) h =
    (All-head (IsBelow n) (Some b) slots h, named_below n from (i + 1) slots (All-tail (IsBelow n) (Some b) slots h))

pub slots_below : (n : ℕ) (T : Others) (b : ℕ) → All (All (IsBelow n)) T → All (IsBelow n) (slots_of T b)
slots_below n [] b h = All-nil (IsBelow n)
slots_below n (s ∷ T) zero h = All-head (All (IsBelow n)) s T h
slots_below n (s ∷ T) (suc b) h = slots_below n T b (All-tail (All (IsBelow n)) s T h)

-- of entries that are all below
pub all_below : (n : ℕ) (others : List ℕ) → All (IsBelow n) (map (λ b. Some b) others) → All (λ b. b < n) others
all_below n others h k d low =
    let at : get_or (map (λ (b : ℕ). Some b) others) k None ≡ Some (get_or others k d) =
    get_or-map (λ (b : ℕ). Some b) others k d None low in
    subst (IsBelow n) at (h k None (omega (arith, length-map others (λ (b : ℕ). Some b), low)))

names_below : (n : ℕ) (T : Others) (places : List Reached) → All (All (IsBelow n)) T → AllOf (λ p. p.bucket < n) (names T places)
names_below n T [] h = tt
names_below n T (p ∷ places) h =
    AllOf-append (λ p. p.bucket < n) (named_by T p) (names T places)
    (named_below n p 0 (slots_of T p.bucket) (slots_below n T p.bucket h)) (names_below n T places h)

pub distinct-not_before : (n : ℕ) (before ps : List Reached) → AreDistinct n before → AllOf (λ p. p.bucket < n) ps → AreDistinct n (before ++ not_before before ps)
distinct-not_before n = kept_by (AreDistinct n) (λ p. p.bucket < n) (λ ps p ds l h. distinct-push n ps p ds l h)

pub distinct_next : (T : Others) (before level : List Reached) → All (All (IsBelow (length T))) T → AreDistinct (length T) before →
    AreDistinct (length T) (before ++ next_level T before level)
distinct_next T before level named ds = distinct-not_before (length T) before (names T level) ds (names_below (length T) T level named)

pub distinct_first : (n : ℕ) (new : ℕ × ℕ) → new.0 < n → new.1 < n → AreDistinct n (first_level new)
distinct_first n new a b =
    distinct-not_before n [] (record { bucket = new.0; through = [] } ∷ record { bucket = new.1; through = [] } ∷ []) tt (a, (b, tt))

-- ---- level by level

-- an empty level ends both
or_empty : (T : Others) (m n : ℕ) (before next : List Reached) →
    (0 < length next → end_from T m (before ++ next) next ≡ find (has_room T) (levels_from T n (before ++ next) next)) →
    end_from T m (before ++ next) next ≡ find (has_room T) (levels_from T n (before ++ next) next)
or_empty T m n before [] on = no_end T m (before ++ []) ∙ sym (ap (find (has_room T)) (no_levels T n (before ++ [])))
or_empty T m n before (p ∷ next) on = on (omega arith)

levels_end : (T : Others) → All (All (IsBelow (length T))) T → (n k : ℕ) (done level : List Reached) → AreDistinct (length T) (done ++ level) →
    length T < length (done ++ level) + n → k + length done ≡ length T + 1 →
    end_from T k (done ++ level) level ≡ find (has_room T) (levels_from T n (done ++ level) level)
unfolding levels_from
levels_end T named zero k done level ds long taken = absurd (omega (arith, few_distinct (length T) (done ++ level) ds))
levels_end T named (suc n) k done level ds long taken =
    let before = done ++ level in
    let next = next_level T before level in
    let few : length before ≤ length T = few_distinct (length T) before ds in
    let sum : length before ≡ length done + length level = length-append done level in
    let m : ℕ = k - length level in
    let parts : k ≡ length level + m = omega arith in
    let one = level_taken T k m before level [] parts in
    let on = λ (long' : length T < length (before ++ next) + n). levels_end T named n m before next (distinct_next T before level named ds) long' (omega arith) in
    let rest : end_from T m (before ++ next) next ≡ find (has_room T) (levels_from T n (before ++ next) next) =
    or_empty T m n before next (λ some. on (omega (arith, length-append before next))) in
    ap (end_from T k before) (sym (append-nil level)) ∙ one ∙ ap (option_or (find (has_room T) level)) rest
    ∙ sym (find-append (has_room T) level (levels_from T n (before ++ next) next))

pub search_end_is : (T : Others) (depth : ℕ) (new : ℕ × ℕ) → IsTable depth T → new.0 < length T → new.1 < length T →
    end_from T (length T + 1) (first_level new) (first_level new) ≡ search_end T new
unfolding search_end
search_end_is T depth new table a b =
    levels_end T table.named (length T) (length T + 1) [] (first_level new) (distinct_first (length T) new a b) (omega arith) (omega arith)

-- ---- with the queue as a list

-- so many places of the queue were looked at, and have no room; the search goes on after them
pub record IsSearching (T : Others) (new : ℕ × ℕ) (places : List Reached) (k : ℕ) : Type 0 where
  pub within : k ≤ length places
  pub distinct : AreDistinct (length T) places
  pub rest : end_from T (length T + 1 - k) places (drop k places) ≡ search_end T new

pub first_added : (none first both : List Reached) (new : ℕ × ℕ) → none ≡ [] →
    first ≡ none ++ not_before none (record { bucket = new.0; through = [] } ∷ []) →
    both ≡ first ++ not_before first (record { bucket = new.1; through = [] } ∷ []) → both ≡ first_level new
first_added none first both new e f g =
    g ∙ ap (λ ps. ps ++ not_before ps (record { bucket = new.1; through = [] } ∷ []))
    (f ∙ ap (λ ps. ps ++ not_before ps (record { bucket = new.0; through = [] } ∷ [])) e)

pub searching_first : (T : Others) (depth : ℕ) (new : ℕ × ℕ) → IsTable depth T → new.0 < length T → new.1 < length T → IsSearching T new (first_level new) 0
searching_first T depth new table a b =
    record {
      within = omega arith;
      distinct = distinct_first (length T) new a b;
      rest =
          let n : length T + 1 - 0 ≡ length T + 1 = omega arith in
          ap (λ n. end_from T n (first_level new) (first_level new)) n ∙ search_end_is T depth new table a b;
    }

-- the place that is looked at, and what there is to do from it on
left_at : (T : Others) (places : List Reached) (k : ℕ) → AreDistinct (length T) places → k < length places →
    end_from T (length T + 1 - k) places (drop k places) ≡ end_from T (suc (length T - k)) places (place_at places k ∷ drop (k + 1) places)
left_at T places k ds l =
    let few : length places ≤ length T = few_distinct (length T) places ds in
    let n : length T + 1 - k ≡ suc (length T - k) = omega arith in
    ap (λ n. end_from T n places (drop k places)) n ∙ ap (end_from T (suc (length T - k)) places) (drop_more places k (record { bucket = 0; through = [] }) l)

pub searching_on : (T : Others) (depth : ℕ) (new : ℕ × ℕ) (places : List Reached) (k : ℕ) → IsTable depth T → IsSearching T new places k → k < length places →
    lowest_empty T (place_at places k).bucket ≡ None → IsSearching T new (places ++ not_before places (named_by T (place_at places k))) (k + 1)
searching_on T depth new places k table searching l full =
    let p = place_at places k in
    let next = not_before places (named_by T p) in
    let n : length T - k ≡ length T + 1 - (k + 1) = omega arith in
    record {
      within = omega (arith, length-append places next);
      distinct = distinct-not_before (length T) places (named_by T p) searching.distinct (named_below (length T) p 0 (slots_of T p.bucket) (slots_below (length T) T p.bucket table.named));
      rest =
          ap₂ (λ n rest. end_from T n (places ++ next) rest) (sym n) (drop-append-le (k + 1) places next (omega arith))
          ∙ sym (left_at T places k searching.distinct l ∙ goes_on T (length T - k) places p (drop (k + 1) places) (ap is_some full))
          ∙ searching.rest;
    }

pub searching_out : (T : Others) (new : ℕ × ℕ) (places : List Reached) (k : ℕ) → IsSearching T new places k → length places ≤ k → search_end T new ≡ None
searching_out T new places k searching l =
    sym searching.rest ∙ ap (end_from T (length T + 1 - k) places) (drop_all k places l) ∙ no_end T (length T + 1 - k) places

-- ---- with the slots of a full bucket one by one

-- So many slots of a place's bucket were gone through: with what the others name, the queue is as it is to be in the end.
pub record IsAdding (slots : List (Option ℕ)) (old : List Reached) (k : ℕ) (i : ℕ) (places : List Reached) : Type 0 where
  pub within : length old ≤ length places
  pub place : place_at places k ≡ place_at old k
  pub rest : places ++ not_before places (named_in (place_at old k) i (drop i slots)) ≡
      old ++ not_before old (named_in (place_at old k) 0 slots)

pub adding_on : (slots : List (Option ℕ)) (old : List Reached) (k i : ℕ) (places : List Reached) (other : ℕ) → IsAdding slots old k i places →
    k < length old → i < length slots → get_or slots i None ≡ Some other →
    IsAdding slots old k (i + 1) (places ++ not_before places (reached_by places other (Some (record { place = k; slot = i })) ∷ []))
adding_on slots old k i places other adding l some filled =
    let p = place_at old k in
    let x : Reached = record { bucket = other; through = (p.bucket, i) ∷ p.through } in
    let new = reached_by places other (Some (record { place = k; slot = i })) in
    let same : new ≡ x = ap (λ (p : Reached). let r : Reached = record { bucket = other; through = (p.bucket, i) ∷ p.through } in r) adding.place in
    let rest : drop i slots ≡ Some other ∷ drop (i + 1) slots = drop_more slots i None some ∙ ap (λ s. s ∷ drop (i + 1) slots) filled in
    let more = not_before places (new ∷ []) in
    record {
      within = omega (arith, length-append places more, adding.within);
      place = get_or_append_left places more (record { bucket = 0; through = [] }) k (omega (arith, adding.within)) ∙ adding.place;
      rest =
          sym (queued_first places new (named_in p (i + 1) (drop (i + 1) slots)))
          ∙ ap (λ y. places ++ not_before places (y ∷ named_in p (i + 1) (drop (i + 1) slots))) same
          ∙ ap (λ ss. places ++ not_before places (named_in p i ss)) (sym rest)
          ∙ adding.rest;
    }

-- ---- full buckets

pub entry_of_full : (slots : List (Option ℕ)) (i : ℕ) → position is_none slots ≡ None → i < length slots → IsSome (get_or slots i None)
entry_of_full slots i full l = some_of_not_none (get_or slots i None) (fails_before_first is_none slots i None (past slots full l))
  where
    some_of_not_none : (o : Option ℕ) → is_none o ≡ false → IsSome o
    some_of_not_none None e = absurd (true≢false e)
    some_of_not_none (Some x) e = refl

    past : (slots : List (Option ℕ)) → position is_none slots ≡ None → i < length slots → i < position_or_len is_none slots
    past slots full l = elim (ltb (position_or_len is_none slots) (length slots)) as (λ t. ltb (position_or_len is_none slots) (length slots) ≡ t → cond t (Some (position_or_len is_none slots)) None ≡ None → i < position_or_len is_none slots)
        [ true ↦ λ e h. absurd cc | false ↦ λ e h. omega (arith, ltb-false _ _ e) ] refl full
