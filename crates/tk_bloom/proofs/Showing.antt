-- What a filter shows.
use Rattle.std.proofs.Common.{◌≡◌, ℕ, ◌+◌, ◌<◌, ◌==◌, Bool, true, false, cond, ◌||◌, nat_lt, List, [], ◌∷◌, length, get_or, map, take, refl, sym, ap, ◌∙◌, inl, inr, Contains, All, arith, zero-add}
use Rattle.std.specs.List.{list_all, list_any}
use Rattle.std.proofs.lemmas.List.{get_or-map, get_or_past, get_or_default, length-map}
use Rattle.std.proofs.lemmas.List.FromFn.{fill_by_all, get_or-map-range_with_len, length-map-range_with_len}
use Rattle.std.proofs.lemmas.List.Folds.{list_any_none, list_any_at, length-flat_map-take}
use Rattle.std.proofs.lemmas.List.Concat.{get_or-flat_map}
use Rattle.std.proofs.lemmas.List.Sums.{list_all-from_AllPass}
use Rattle.std.proofs.lemmas.Bool.{cases_lt, eq-eqb, lt-ltb, ne_eqb}
use Rattle.tk_bloom.specs.Counts.{AreCounts, count_of}
use Rattle.tk_bloom.specs.Filters.{positions_of, is_shown, marks_of, all_marked}
use Rattle.tk_bloom.proofs.Counting.{count_of-cons}

-- one that is counted, or some others
some_or : (first : Bool) (count : ℕ) (others : Bool)
    → nat_lt 0 count ≡ others → nat_lt 0 (cond first 1 0 + count) ≡ (first || others)
some_or true count others e = lt-ltb 0 (1 + count) (omega arith)
some_or false count others e = ap (nat_lt 0) (zero-add count) ∙ e

-- a position occurs where its count is above 0
pub some_of_count : (positions : List ℕ) (h : ℕ)
    → nat_lt 0 (count_of positions h) ≡ list_any (λ k. h == k) positions
some_of_count [] h = refl
some_of_count (x ∷ xs) h =
    ap (nat_lt 0) (count_of-cons x h xs) ∙ some_or (h == x) (count_of xs h) _ (some_of_count xs h)

-- the tests of the counts are the filter
pub map-counts : (counts positions : List ℕ) (room : ℕ) → AreCounts counts positions room
    → map (λ n. nat_lt 0 n) counts ≡ marks_of (length counts) positions
map-counts counts positions room are =
    let test : ℕ → Bool = λ n. nat_lt 0 n in
    fill_by_all (λ h. list_any (λ k. h == k) positions) (map test counts) (length counts) false
    (length-map counts test)
    (λ h within.
    get_or-map test counts h 0 false within
    ∙ ap test (are.counted h within) ∙ some_of_count positions h)

-- one position of a filter
pub get_or-marks_of : (bits : ℕ) (positions : List ℕ) (h : ℕ) → All (λ k. k < bits) positions
    → get_or (marks_of bits positions) h false ≡ list_any (λ k. h == k) positions
get_or-marks_of bits positions h below = elim (cases_lt h bits) [
  | inl within ↦
      get_or-map-range_with_len (λ i. list_any (λ k. i == k) positions) 0 bits h h false within
      (omega arith)
  | inr past ↦
      let long = length-map-range_with_len (λ i. list_any (λ k. i == k) positions) 0 bits in
      get_or_past (marks_of bits positions) h false (omega arith)
      ∙ sym (list_any_none (λ k. h == k) positions (λ i d within.
      ne_eqb h _ (λ e. let less = below i d within in omega arith)))
]

-- the filter answers as the positions do
pub all_marked-marks_of : (bits : ℕ) (positions : List ℕ) → All (λ k. k < bits) positions
    → (hits : List ℕ) → all_marked (marks_of bits positions) hits ≡ is_shown positions hits
all_marked-marks_of bits positions below hits =
    λ i. list_all (λ h. get_or-marks_of bits positions h below i) hits

-- a push that is among the pushes is shown
pub is_shown-positions_of : (pushes : List (List ℕ)) (hits : List ℕ) → Contains pushes hits
    → is_shown (positions_of pushes) hits ≡ true
is_shown-positions_of pushes hits (i, within, is) =
    list_all-from_AllPass _ hits (λ j d inside.
    let inside_push : j < length (get_or pushes i hits) = rw is inside in
    let place = length (positions_of (take i pushes)) + j in
    let room = length-flat_map-take (λ ps. ps) pushes i hits within in
    let there : get_or (positions_of pushes) place d ≡ get_or hits j d =
    get_or-flat_map (λ ps. ps) pushes i j hits d within inside_push
    ∙ ap (λ ps. get_or ps j d) is in
    list_any_at _ (positions_of pushes) place d (omega arith)
    (eq-eqb (get_or hits j d) _ (sym there)))

-- each of the pushes is shown
pub each_is_shown : (pushes : List (List ℕ)) (i : ℕ) (d : List ℕ) → i < length pushes
    → is_shown (positions_of pushes) (get_or pushes i d) ≡ true
each_is_shown pushes i d within =
    is_shown-positions_of pushes (get_or pushes i d)
    (i, within, get_or_default pushes i (get_or pushes i d) d within)
