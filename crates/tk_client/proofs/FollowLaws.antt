-- Which number of a log is wanted.
use Rattle.std.proofs.Common.{◌≡◌, refl, ap, sym, ◌∙◌, arith, ℕ, suc, ◌+◌, ◌-◌, ◌<◌, ◌≤◌, nat_lt}
use Rattle.std.proofs.Common.{Bool, true, false, cond, ◌&&◌, Some, None, List, [], ◌∷◌, length}
use Rattle.std.specs.Prelude.{◌==◌, find}
use Rattle.std.specs.List.{range_with_len}
use Rattle.std.proofs.lemmas.Bool.{cond-true, cond-false, le-ltb}
use Rattle.tk_shape.specs.declared.shape.Shape.{Shape}
use Rattle.tk_shape.specs.Lengths.{turn_count}
use Rattle.tk_client.specs.declared.got.Got.{Got}
use Rattle.tk_client.specs.Reader.{Follow, next_of, wanted}
use Rattle.tk_client.specs.Searching.{follow_anew, is_wanted}

-- ---- the first of the numbers from i on that are below n

find-next : (test : ℕ → Bool) (i n : ℕ) → i < n →
    let later = find test (range_with_len (i + 1) (n - (i + 1))) in
    find test (range_with_len i (n - i)) ≡ cond (test i) (Some i) later
find-next test i n within = ap (λ k. find test (range_with_len i k)) longer
  where
    longer : n - i ≡ suc (n - (i + 1))
    longer = omega arith

pub find-here : (test : ℕ → Bool) (i n : ℕ) → i < n → test i ≡ true →
    find test (range_with_len i (n - i)) ≡ Some i
find-here test i n within passes = find-next test i n within ∙ cond-true (test i) _ _ passes

pub find-later : (test : ℕ → Bool) (i n : ℕ) → i < n → test i ≡ false →
    find test (range_with_len i (n - i)) ≡ find test (range_with_len (i + 1) (n - (i + 1)))
find-later test i n within fails = find-next test i n within ∙ cond-false (test i) _ _ fails

pub find-past : (test : ℕ → Bool) (i n : ℕ) → n ≤ i → find test (range_with_len i (n - i)) ≡ None
find-past test i n past = ap (λ k. find test (range_with_len i k)) none
  where
    none : n - i ≡ 0
    none = omega arith

pub find-none : (test : ℕ → Bool) → ((i : ℕ) → test i ≡ false) → (xs : List ℕ) → find test xs ≡ None
find-none test fails [] = refl
find-none test fails (x ∷ xs) = cond-false (test x) _ _ (fails x) ∙ find-none test fails xs

-- ---- what is wanted of a log

pub next-anew : (anew : Bool) (f : Follow) → next_of (follow_anew anew f) ≡ next_of f
next-anew true f = refl
next-anew false f = refl

-- of a log whose numbers are all settled nothing is wanted
pub wanted-settled : (shape : Shape) (shown : ℕ → ℕ → Bool) (anew : Bool) (f : Follow) →
    turn_count shape ≤ next_of f → wanted shape shown (follow_anew anew f) ≡ None
wanted-settled shape shown anew f settled =
    let g = follow_anew anew f in
    let turns = turn_count shape in
    let past : turns ≤ next_of g = omega (arith, settled, next-anew anew f) in
    let test : ℕ → Bool = λ j. is_wanted shape shown g.log (next_of g + j) in
    let places = range_with_len g.tried (shape.ahead - g.tried) in
    let none =
    find-none test
    (λ j. ap (λ b. b && shown g.log (next_of g + j))
    (le-ltb (next_of g + j) turns (omega (arith, past))))
    places
    in
    elim (shape.ahead == 0)
    as (λ b. cond b (cond (nat_lt (next_of g) turns) (Some 0) None) (find test places) ≡ None) [
      | true ↦ cond-false (nat_lt (next_of g) turns) _ _ (le-ltb (next_of g) turns past)
      | false ↦ none
    ]

-- the next number, told by what a log gave
pub next-by-view : (log : ℕ) (got : List Got) (tried : ℕ) (f : Follow) →
    record { log = log; got = got; tried = tried } ≡ f → next_of f ≡ length got
next-by-view log got tried f is = sym (ap next_of is)
