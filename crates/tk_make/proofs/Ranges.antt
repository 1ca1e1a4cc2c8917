-- One more number of a range, and what it gives.
use Rattle.std.proofs.Common.{◌≡◌, ◌∙◌, ℕ, ◌+◌, ◌-◌, ◌≤◌, Bool, List, [], ◌∷◌, ◌++◌, ap, ap₂, sym}
use Rattle.std.proofs.Common.{flat_map, map, filter, cond, true, false, append_assoc, append-nil, arith}
use Rattle.std.specs.List.{range_with_len}
use Rattle.std.specs.Prelude.{sum_by}
use Rattle.std.proofs.lemmas.List.Sums.{sum_by-append, sum_by-cons}
use Rattle.std.proofs.Math.Nat.{zero-add}
use Rattle.std.proofs.lemmas.List.{map-append}
use Rattle.std.proofs.lemmas.List.Elements.{filter-append}
use Rattle.std.proofs.lemmas.List.FromFn.{map-range_with_len_more}
use Rattle.tk_lists.proofs.Offers.{range-more, flat_map-range_more}

-- and after what was there before
pub behind_range : {A : Type 0} (f : ℕ → List A) (a j : ℕ) (old : List A)
    {before new : List A} → a ≤ j →
    before ≡ old ++ flat_map f (range_with_len a (j - a)) → new ≡ before ++ f j →
    new ≡ old ++ flat_map f (range_with_len a (j + 1 - a))
behind_range {A} f a j old low before_is new_is =
    let more : flat_map f (range_with_len a (j - a + 1))
    ≡ flat_map f (range_with_len a (j - a)) ++ f j =
    flat_map-range_more f a (j - a) j (omega (arith, low)) in
    let count : j - a + 1 ≡ j + 1 - a = omega (arith, low) in
    new_is
    ∙ ap (λ (xs : List A). xs ++ f j) before_is
    ∙ append_assoc old (flat_map f (range_with_len a (j - a))) (f j)
    ∙ ap (λ (xs : List A). old ++ xs) (sym more)
    ∙ ap (λ (n : ℕ). old ++ flat_map f (range_with_len a n)) count

-- what is made from one more number stands last
pub map_next : {X : Type 0} (f : ℕ → X) (n : ℕ) {before new : List X} {x : X} →
    before ≡ map f (range_with_len 0 n) → new ≡ before ++ x ∷ [] → x ≡ f n →
    new ≡ map f (range_with_len 0 (n + 1))
map_next {X} f n before_is new_is x_is =
    new_is
    ∙ ap₂ (λ (front : List X) (back : X). front ++ back ∷ []) before_is x_is
    ∙ sym (map-range_with_len_more f 0 n n (zero-add n))

-- ---- what is made from those numbers that pass a test

filter_range_more : (p : ℕ → Bool) (n : ℕ) →
    filter p (range_with_len 0 (n + 1)) ≡ filter p (range_with_len 0 n) ++ filter p (n ∷ [])
filter_range_more p n =
    ap (filter p) (range-more 0 n n (zero-add n)) ∙ filter-append p (range_with_len 0 n) (n ∷ [])

-- one more that passes stands last
pub passes_next : {X : Type 0} (p : ℕ → Bool) (f : ℕ → X) (n : ℕ) (old : List X)
    {before new : List X} {x : X} →
    before ≡ old ++ map f (filter p (range_with_len 0 n)) → true ≡ p n →
    new ≡ before ++ x ∷ [] → x ≡ f n →
    new ≡ old ++ map f (filter p (range_with_len 0 (n + 1)))
passes_next {X} p f n old before_is passes new_is x_is =
    let front = filter p (range_with_len 0 n) in
    let last : filter p (n ∷ []) ≡ n ∷ [] = ap (λ (b : Bool). cond b (n ∷ []) []) (sym passes) in
    new_is
    ∙ ap₂ (λ (ys : List X) (y : X). ys ++ y ∷ []) before_is x_is
    ∙ append_assoc old (map f front) (f n ∷ [])
    ∙ ap (λ (ys : List X). old ++ ys) (sym (map-append f front (n ∷ [])))
    ∙ ap (λ (ks : List ℕ). old ++ map f ks)
    (sym (filter_range_more p n ∙ ap (λ (ks : List ℕ). front ++ ks) last))

-- one that doesn't changes nothing
pub passed_over : {X : Type 0} (p : ℕ → Bool) (f : ℕ → X) (n : ℕ) (old : List X)
    {before : List X} →
    before ≡ old ++ map f (filter p (range_with_len 0 n)) → false ≡ p n →
    before ≡ old ++ map f (filter p (range_with_len 0 (n + 1)))
passed_over {X} p f n old before_is fails =
    let front = filter p (range_with_len 0 n) in
    let last : filter p (n ∷ []) ≡ [] = ap (λ (b : Bool). cond b (n ∷ []) []) (sym fails) in
    before_is
    ∙ ap (λ (ks : List ℕ). old ++ map f ks)
    (sym (filter_range_more p n ∙ ap (λ (ks : List ℕ). front ++ ks) last ∙ append-nil front))

-- ---- sums

-- what one more number adds
pub sum_next : (f : ℕ → ℕ) (n : ℕ) {before new more : ℕ} →
    before ≡ sum_by f (range_with_len 0 n) → new ≡ before + more → more ≡ f n →
    new ≡ sum_by f (range_with_len 0 (n + 1))
sum_next f n before_is new_is more_is =
    let front = range_with_len 0 n in
    let parts : sum_by f (range_with_len 0 (n + 1)) ≡ sum_by f front + sum_by f (n ∷ []) =
    ap (sum_by f) (range-more 0 n n (zero-add n)) ∙ sum_by-append f front (n ∷ []) in
    omega (arith, before_is, new_is, more_is, parts, sum_by-cons f n [])
