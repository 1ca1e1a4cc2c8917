-- Slots that are in use, and the other buckets of their entries.
use Rattle.std.proofs.Common.{◌≡◌, ℕ, zero, suc, ◌+◌, ◌*◌, ◌<◌, ◌≤◌, refl, ap, ap₂, sym, ◌∙◌, arith, Bool}
use Rattle.std.proofs.Common.{true, false, not, cond, List, [], ◌∷◌, length, take, drop, set, map}
use Rattle.std.proofs.Common.{get_or, replicate, All, subst, is_some, is_none, position, nat_lt, ltb-false}
use Rattle.std.specs.Prelude.{◌==◌, Option, Some, None, IsSome, unwrap_or}
use Rattle.std.specs.List.{list_all, prefix_len, position_or_len}
use Rattle.std.proofs.lemmas.List.Folds.{list_all-map}
use Rattle.std.proofs.lemmas.List.Sums.{prefix_len-le-length}
use Rattle.std.proofs.lemmas.List.{length-map, length-drop, length-set, length-replicate, get_or-map, get_or-set_same, map-set}
use Rattle.std.proofs.lemmas.Bool.{ne_eqb, lt-ltb}
use Rattle.tk_place.specs.Place.{Others, slots_of, lowest_empty}
use Rattle.tk_place.specs.Table.{slot_at, IsBelow, is_other_full, leads_to_full}
use Rattle.tk_table.specs.Rows.{rows, with_other, IsRun, IsIndex, slots_in, is_full}
use Rattle.tk_table.proofs.Rows.{length-rows, row_at, rows-set, rows-empty, length-row, within_run}

-- ---- slots in a row

slots_in-nil : (others : List ℕ) → slots_in others [] ≡ []
slots_in-nil [] = refl
slots_in-nil (o ∷ others) = refl

pub length-slots_in : (others : List ℕ) (used : List Bool) → length used ≡ length others →
    length (slots_in others used) ≡ length others
length-slots_in [] used e = refl
length-slots_in (o ∷ others) [] e = absurd (omega (arith, e))
length-slots_in (o ∷ others) (u ∷ used) e = ap suc (length-slots_in others used (omega (arith, e)))

-- which slots are in use
pub some-slots_in : (others : List ℕ) (used : List Bool) → length used ≡ length others →
    map is_some (slots_in others used) ≡ used
some-slots_in [] [] e = refl
some-slots_in [] (u ∷ used) e = absurd (omega (arith, e))
some-slots_in (o ∷ others) [] e = absurd (omega (arith, e))
some-slots_in (o ∷ others) (u ∷ used) e =
    ap₂ (λ (v : Bool) vs. v ∷ vs) (own u) (some-slots_in others used (omega (arith, e)))
  where
    own : (u : Bool) → is_some (cond u (Some o) None) ≡ u
    own true = refl
    own false = refl

pub take-slots_in : (n : ℕ) (others : List ℕ) (used : List Bool) →
    take n (slots_in others used) ≡ slots_in (take n others) (take n used)
take-slots_in zero others used = refl
take-slots_in (suc n) [] used = refl
take-slots_in (suc n) (o ∷ others) [] = refl
take-slots_in (suc n) (o ∷ others) (u ∷ used) =
    ap (λ rest. cond u (Some o) None ∷ rest) (take-slots_in n others used)

pub drop-slots_in : (n : ℕ) (others : List ℕ) (used : List Bool) →
    drop n (slots_in others used) ≡ slots_in (drop n others) (drop n used)
drop-slots_in zero others used = refl
drop-slots_in (suc n) [] used = refl
drop-slots_in (suc n) (o ∷ others) [] = sym (slots_in-nil (drop n others))
drop-slots_in (suc n) (o ∷ others) (u ∷ used) = drop-slots_in n others used

pub slots_in-empty : (n : ℕ) → slots_in (replicate n 0) (replicate n false) ≡ replicate n None
slots_in-empty zero = refl
slots_in-empty (suc n) = ap (λ rest. None ∷ rest) (slots_in-empty n)

pub slots_in-set : (others : List ℕ) (used : List Bool) (i : ℕ) (other : Option ℕ) →
    slots_in (set others i (unwrap_or other 0)) (set used i (is_some other))
    ≡ set (slots_in others used) i other
slots_in-set [] used i other = refl
slots_in-set (o ∷ others) [] zero other = refl
slots_in-set (o ∷ others) [] (suc i) other = refl
slots_in-set (o ∷ others) (u ∷ used) zero None = refl
slots_in-set (o ∷ others) (u ∷ used) zero (Some b) = refl
slots_in-set (o ∷ others) (u ∷ used) (suc i) other =
    ap (λ rest. cond u (Some o) None ∷ rest) (slots_in-set others used i other)

-- ---- the lowest that is empty

prefix_len-map : {X Y : Type 0} (p : Y → Bool) (f : X → Y) (xs : List X) →
    prefix_len p (map f xs) ≡ prefix_len (λ x. p (f x)) xs
prefix_len-map p f [] = refl
prefix_len-map p f (x ∷ xs) =
    ap (λ n. cond (p (f x)) (1 + n) 0) (prefix_len-map p f xs)

pub position_unused : (slots : List (Option ℕ)) →
    position (λ u. not u) (map is_some slots) ≡ position is_none slots
position_unused slots =
    ap₂ (λ (n len : ℕ). cond (nat_lt n len) (Some n) None)
    (prefix_len-map (λ u. not (not u)) is_some slots) (length-map slots is_some)

all_used : (others : List ℕ) (used : List Bool) → length used ≡ length others →
    position_or_len is_none (slots_in others used) ≡ length others →
    slots_in others used ≡ map (λ o. Some o) others
all_used [] used e all = refl
all_used (o ∷ others) [] e all = absurd (omega (arith, e))
all_used (o ∷ others) (true ∷ used) e all =
    ap (λ rest. Some o ∷ rest) (all_used others used (omega (arith, e)) (omega (arith, all)))
all_used (o ∷ others) (false ∷ used) e all = absurd (omega (arith, all))

-- a slot that is in use has its entry's other bucket
pub some_in : (others : List ℕ) (used : List Bool) (i d : ℕ) →
    IsSome (get_or (slots_in others used) i None) →
    (i < length others) × (get_or (slots_in others used) i None ≡ Some (get_or others i d))
some_in [] used i d is = absurd (cc is)
some_in (o ∷ others) [] i d is = absurd (cc is)
some_in (o ∷ others) (true ∷ used) zero d is = (omega arith, refl)
some_in (o ∷ others) (false ∷ used) zero d is = absurd (cc is)
some_in (o ∷ others) (u ∷ used) (suc i) d is =
    let rest = some_in others used i d is in (omega (arith, rest.0), rest.1)

-- all slots that are full have their entries' other buckets
pub full-slots_in : (others : List ℕ) (used : List Bool) → length used ≡ length others →
    position is_none (slots_in others used) ≡ None →
    slots_in others used ≡ map (λ o. Some o) others
full-slots_in others used e full =
    all_used others used e (end_of (position_or_len is_none (slots_in others used))
    (length (slots_in others used)) full
    (prefix_len-le-length (λ o. not (is_none o)) (slots_in others used))
    ∙ length-slots_in others used e)
  where
    end_of : (n len : ℕ) → cond (nat_lt n len) (Some n) None ≡ None → n ≤ len → n ≡ len
    end_of n len none low =
        elim (nat_lt n len) as (λ t. nat_lt n len ≡ t → cond t (Some n) None ≡ None → n ≡ len) [
          | true ↦ λ _ h. absurd cc
          | false ↦ λ h _. omega (arith, ltb-false n len h, low)
        ] refl none

-- the entries of a row name buckets below a number
pub named_at : (n : ℕ) (slots : List (Option ℕ)) (row : List ℕ) → slots ≡ map (λ o. Some o) row →
    All (IsBelow n) slots → (k d : ℕ) → k < length row → get_or row k d < n
named_at n slots row is named k d low =
    let at : get_or (map (λ (o : ℕ). Some o) row) k None ≡ Some (get_or row k d) =
    get_or-map (λ (o : ℕ). Some o) row k d None low in
    let each = subst (All (IsBelow n)) is named in
    subst (IsBelow n) at (each k None (omega (arith, length-map row (λ (o : ℕ). Some o), low)))

-- whether they name full buckets only
pub leads_by_row : (T : Others) (b : ℕ) (row : List ℕ) → slots_of T b ≡ map (λ o. Some o) row →
    leads_to_full T b ≡ list_all (λ o. is_none (lowest_empty T o)) row
leads_by_row T b row is =
    ap (list_all (is_other_full T)) is ∙ list_all-map (is_other_full T) (λ (o : ℕ). Some o) row

-- ---- one bucket of a run

module _ (buckets depth : ℕ) (others : List ℕ) (used : List Bool)
    (beside : length used ≡ length others) where
  cut : (b : ℕ) → b < buckets →
      slots_of (rows buckets depth (slots_in others used)) b
      ≡ slots_in (take depth (drop (b * depth) others)) (take depth (drop (b * depth) used))
  cut b low =
      row_at buckets depth b (slots_in others used) low
      ∙ ap (take depth) (drop-slots_in (b * depth) others used)
      ∙ take-slots_in depth (drop (b * depth) others) (drop (b * depth) used)

  cut_beside : (b : ℕ) →
      length (take depth (drop (b * depth) used)) ≡ length (take depth (drop (b * depth) others))
  cut_beside b =
      let u = length-drop (b * depth) used in
      let o = length-drop (b * depth) others in
      same_taken depth (drop (b * depth) used) (drop (b * depth) others)
      (omega (arith, u, o, beside))
    where
      same_taken : {X Y : Type 0} (n : ℕ) (xs : List X) (ys : List Y) → length xs ≡ length ys →
          length (take n xs) ≡ length (take n ys)
      same_taken zero xs ys e = refl
      same_taken (suc n) [] [] e = refl
      same_taken (suc n) [] (y ∷ ys) e = absurd (omega (arith, e))
      same_taken (suc n) (x ∷ xs) [] e = absurd (omega (arith, e))
      same_taken (suc n) (x ∷ xs) (y ∷ ys) e = ap suc (same_taken n xs ys (omega (arith, e)))

  -- the lowest slot that is not in use
  unused_at : (b : ℕ) → b < buckets →
      position (λ u. not u) (take depth (drop (b * depth) used))
      ≡ lowest_empty (rows buckets depth (slots_in others used)) b
  unused_at b low =
      ap (position (λ u. not u))
      (sym (some-slots_in (take depth (drop (b * depth) others))
      (take depth (drop (b * depth) used)) (cut_beside b)))
      ∙ position_unused (slots_in (take depth (drop (b * depth) others))
      (take depth (drop (b * depth) used)))
      ∙ ap (position is_none) (sym (cut b low))

  -- the slots of a full bucket
  full_at : (b : ℕ) → b < buckets →
      lowest_empty (rows buckets depth (slots_in others used)) b ≡ None →
      slots_of (rows buckets depth (slots_in others used)) b
      ≡ map (λ o. Some o) (take depth (drop (b * depth) others))
  full_at b low full =
      cut b low
      ∙ full-slots_in (take depth (drop (b * depth) others)) (take depth (drop (b * depth) used))
      (cut_beside b) (ap (position is_none) (sym (cut b low)) ∙ full)

-- ---- all buckets

module _ (buckets depth : ℕ) (others : List ℕ) (used marks : List Bool)
    (index : IsIndex buckets depth others used marks) (now : Others)
    (is : rows buckets depth (slots_in others used) ≡ now) where
  pub low_at : (b : ℕ) → b < length now → b < buckets
  low_at b low = omega (arith, low, ap length is, length-rows buckets depth (slots_in others used))

  pub inner_at : (b : ℕ) → b < length now → (i : ℕ) → i < length (slots_of now b) → i < depth
  inner_at b low i inner =
      let same = length-slots_in others used index.beside in
      let run = subst (IsRun buckets depth) (sym same) index.run in
      omega (
        arith,
        inner,
        ap (λ T. length (slots_of T b)) is,
        length-row buckets depth b (slots_in others used) run (low_at b low),
      )

  -- a bucket has a mark, and its slots are in the run
  pub part_ends : (b : ℕ) → b < length now →
      (b < length marks) × (b * depth + depth ≤ length others) × (b * depth + depth ≤ length used)
      × (length others ≤ 131072) × (length used ≤ 131072)
  part_ends b low =
      let within : b < buckets = low_at b low in
      let ends = within_run buckets depth (length others) b index.run within in
      let same = index.beside in
      let many = ap length index.marked
      ∙ length-map (rows buckets depth (slots_in others used)) is_full
      ∙ length-rows buckets depth (slots_in others used) in (
        omega (arith, within, many),
        ends.0,
        omega (arith, ends.0, same),
        ends.1,
        omega (arith, ends.1, same),
      )

  -- what a mark says
  pub mark_at : (b : ℕ) (d : Bool) → b < length now → get_or marks b d ≡ is_none (lowest_empty now b)
  mark_at b d low =
      ap (λ ms. get_or ms b d) (index.marked ∙ ap (map is_full) is)
      ∙ get_or-map is_full now b [] d low

  -- the lowest slot that is not in use
  pub free_at : (b : ℕ) → b < length now →
      position (λ u. not u) (take depth (drop (b * depth) used)) ≡ lowest_empty now b
  free_at b low =
      unused_at buckets depth others used index.beside b (low_at b low)
      ∙ ap (λ T. lowest_empty T b) is

  -- the other bucket of the entry in a slot
  pub other_at : (b i d : ℕ) → b < length now → IsSome (slot_at now b i) →
      let part = take depth (drop (b * depth) others) in
      (i < length part) × (slot_at now b i ≡ Some (get_or part i d))
  other_at b i d low some =
      let same = ap (λ T. slots_of T b) (sym is)
      ∙ cut buckets depth others used index.beside b (low_at b low) in
      let found = some_in (take depth (drop (b * depth) others)) (take depth (drop (b * depth) used))
      i d (subst (λ ss. IsSome (get_or ss i None)) same some) in
      (found.0, ap (λ ss. get_or ss i None) same ∙ found.1)

  -- the slots of a full bucket
  pub others_at : (b : ℕ) → b < length now → lowest_empty now b ≡ None →
      slots_of now b ≡ map (λ o. Some o) (take depth (drop (b * depth) others))
  others_at b low full =
      ap (λ T. slots_of T b) (sym is)
      ∙ full_at buckets depth others used index.beside b (low_at b low)
      (ap (λ T. lowest_empty T b) is ∙ full)

-- ---- a slot is set

-- the rows, where both runs are set
pub rows_set : (buckets depth b i : ℕ) (others : List ℕ) (used : List Bool) (other : Option ℕ) →
    b < buckets → i < depth →
    rows buckets depth (slots_in (set others (b * depth + i) (unwrap_or other 0))
    (set used (b * depth + i) (is_some other)))
    ≡ with_other (rows buckets depth (slots_in others used)) (b, i) other
rows_set buckets depth b i others used other low inner =
    ap (rows buckets depth) (slots_in-set others used (b * depth + i) other)
    ∙ rows-set buckets depth b i (slots_in others used) other low inner

-- the bucket's mark says again whether it is full
pub index_set : (buckets depth b i : ℕ) (others : List ℕ) (used marks : List Bool) (other : Option ℕ)
    (mark : Bool) → IsIndex buckets depth others used marks → b < buckets → i < depth →
    mark ≡ is_none (position (λ u. not u)
    (take depth (drop (b * depth) (set used (b * depth + i) (is_some other))))) →
    IsIndex buckets depth (set others (b * depth + i) (unwrap_or other 0))
    (set used (b * depth + i) (is_some other)) (set marks b mark)
index_set buckets depth b i others used marks other mark index low inner is =
    let at = b * depth + i in
    let more = set others at (unwrap_or other 0) in
    let now = set used at (is_some other) in
    let seen = rows buckets depth (slots_in others used) in
    let long = length-set others at (unwrap_or other 0) in
    let wide = length-set used at (is_some other) in
    let beside : length now ≡ length more = omega (arith, long, wide, index.beside) in
    let row = set (slots_of seen b) i other in
    let made = rows_set buckets depth b i others used other low inner in
    let there : slots_of (rows buckets depth (slots_in more now)) b ≡ row =
    ap (λ T. slots_of T b) made
    ∙ get_or-set_same seen b row [] (omega (arith, low, length-rows buckets depth (slots_in others used))) in
    let told : mark ≡ is_full row =
    is ∙ ap is_none (unused_at buckets depth more now beside b low ∙ ap (position is_none) there) in
    record {
      run = subst (IsRun buckets depth) (sym long) index.run;
      beside = beside;
      marked =
          ap₂ (λ ms m. set ms b m) index.marked told
          ∙ sym (map-set is_full seen b row) ∙ ap (map is_full) (sym made);
    }

-- ---- at first

empty_full : (depth : ℕ) → is_full (replicate depth None) ≡ (depth == 0)
empty_full zero = refl
empty_full (suc n) =
    ap (λ t. not (is_some {T = ℕ} (cond t (Some 0) None)))
    (lt-ltb 0 (suc (length (replicate {A = Option ℕ} n None))) (omega arith))
    ∙ sym (ne_eqb (suc n) 0 (λ e. omega (arith, e)))

-- all slots are empty
pub rows_begun : (buckets depth : ℕ) (others : List ℕ) (used : List Bool) →
    others ≡ replicate (buckets * depth) 0 → used ≡ replicate (buckets * depth) false →
    rows buckets depth (slots_in others used) ≡ replicate buckets (replicate depth None)
rows_begun buckets depth others used os us =
    ap₂ (λ os us. rows buckets depth (slots_in os us)) os us
    ∙ ap (rows buckets depth) (slots_in-empty (buckets * depth))
    ∙ rows-empty buckets depth

pub index_begun : (buckets depth : ℕ) (others : List ℕ) (used marks : List Bool) →
    others ≡ replicate (buckets * depth) 0 → used ≡ replicate (buckets * depth) false →
    marks ≡ replicate buckets (depth == 0) → buckets ≤ 16384 → depth ≤ 8 →
    IsIndex buckets depth others used marks
index_begun buckets depth others used marks os us ms wide deep =
    record {
      run = record {
        all = ap length os ∙ length-replicate (buckets * depth) 0;
        wide = wide;
        deep = deep;
      };
      beside =
          ap length us ∙ length-replicate (buckets * depth) false
          ∙ sym (ap length os ∙ length-replicate (buckets * depth) 0);
      marked =
          ms ∙ ap (replicate buckets) (sym (empty_full depth))
          ∙ sym (map_same buckets)
          ∙ ap (map is_full) (sym (rows_begun buckets depth others used os us));
    }
  where
    map_same : (n : ℕ) →
        map is_full (replicate n (replicate depth None)) ≡ replicate n (is_full (replicate depth None))
    map_same zero = refl
    map_same (suc n) = ap (λ rest. is_full (replicate depth None) ∷ rest) (map_same n)
