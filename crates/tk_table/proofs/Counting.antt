-- Lists that weigh alike by every weight are each the other in another order.
use Rattle.std.proofs.Common.{◌≡◌, ℕ, ◌+◌, refl, ap, sym, ◌∙◌, subst, arith, List, [], ◌∷◌, ◌++◌}
use Rattle.std.proofs.Common.{Bool, true, false, cond, ◌≤◌}
use Rattle.std.specs.List.{sum_by, count_by}
use Rattle.std.specs.List.Sorted.{IsPermutation}
use Rattle.std.proofs.lemmas.List.Sums.{sum_by-cons, sum_by-append}
use Rattle.std.proofs.lemmas.List.Sorted.{IsPermutation-refl, IsPermutation-cons}
use Rattle.std.proofs.lemmas.List.Sorted.{IsPermutation-middle, IsPermutation-sym, IsPermutation-trans}

-- one that passes, with what stands before and after it
pub record Found {X : Type 0} (test : X → Bool) (xs : List X) : Type 0 where
  pub front : List X
  pub item : X
  pub back : List X
  pub split : xs ≡ front ++ item ∷ back
  pub passes : test item ≡ true

pub count_by-passes : {X : Type 0} (test : X → Bool) (x : X) (xs : List X) → test x ≡ true →
    count_by test (x ∷ xs) ≡ 1 + count_by test xs
count_by-passes test x xs e = sum_by-cons (λ y. cond (test y) 1 0) x xs
    ∙ ap (λ b. cond b 1 0 + count_by test xs) e

count_by-fails : {X : Type 0} (test : X → Bool) (x : X) (xs : List X) → test x ≡ false →
    count_by test (x ∷ xs) ≡ count_by test xs
count_by-fails test x xs e =
    sum_by-cons (λ y. cond (test y) 1 0) x xs ∙ ap (λ b. cond b 1 0 + count_by test xs) e
    ∙ omega arith

-- where some pass, one is found
pub found : {X : Type 0} (test : X → Bool) (xs : List X) → 1 ≤ count_by test xs → Found test xs
found test [] some = absurd (omega (arith, some))
found {X} test (x ∷ xs) some =
    elim (test x) as (λ b. test x ≡ b → Found test (x ∷ xs)) [
      | true ↦ λ e. record { front = []; item = x; back = xs; split = refl; passes = e }
      | false ↦ λ e.
          let fewer = count_by-fails test x xs e in
          let later : Found test xs = found test xs (omega (arith, some, fewer)) in
          record {
            front = x ∷ later.front;
            item = later.item;
            back = later.back;
            split = ap (λ ys. x ∷ ys) later.split;
            passes = later.passes;
          }
    ] refl

-- every weight adds up to as much over the one as over the other
abbrev pub CountAlike : {X : Type 0} → List X → List X → Type 0
CountAlike {X} xs ys = (weight : X → ℕ) → sum_by weight xs ≡ sum_by weight ys

pub none-length : {X : Type 0} (ys : List X) → sum_by (λ _. 1) ys ≡ 0 → ys ≡ []
none-length [] h = refl
none-length (y ∷ ys) h = absurd (let e = sum_by-cons (λ _. 1) y ys in omega (arith, e, h))

-- one of each is left out
pub sum-without : {X : Type 0} (weight : X → ℕ) (front back : List X) (x : X) →
    sum_by weight (front ++ x ∷ back) ≡ weight x + sum_by weight (front ++ back)
sum-without weight front back x =
    let all = sum_by-append weight front (x ∷ back) in
    let one = sum_by-cons weight x back in
    let rest = sum_by-append weight front back in
    omega (arith, all, one, rest)

pub permuted : {X : Type 0} (same : X → X → Bool) → ((x y : X) → same x y ≡ true → x ≡ y) →
    ((x : X) → same x x ≡ true) → (xs ys : List X) → CountAlike xs ys → IsPermutation xs ys
permuted same sound own [] ys alike =
    subst (λ zs. IsPermutation [] zs) (sym (none-length ys (sym (alike (λ _. 1)))))
    (IsPermutation-refl [])
permuted same sound own (x ∷ xs) ys alike =
    let one = count_by-passes (same x) x xs (own x) in
    let there = found (same x) ys (omega (arith, one, alike (λ y. cond (same x y) 1 0))) in
    let split : ys ≡ there.front ++ x ∷ there.back =
    there.split ∙ ap (λ z. there.front ++ z ∷ there.back)
    (sym (sound x there.item there.passes)) in
    let rest : CountAlike xs (there.front ++ there.back) =
    λ weight. (let l = sum_by-cons weight x xs in let r =
    ap (sum_by weight) split ∙ sum-without weight there.front there.back x in
    omega (arith, l, r, alike weight)) in
    subst (λ zs. IsPermutation (x ∷ xs) zs) (sym split)
    (IsPermutation-trans (x ∷ xs) (x ∷ (there.front ++ there.back)) (there.front ++ x ∷ there.back)
    (IsPermutation-cons x xs (there.front ++ there.back)
    (permuted same sound own xs (there.front ++ there.back) rest))
    (IsPermutation-sym (there.front ++ x ∷ there.back) (x ∷ (there.front ++ there.back))
    (IsPermutation-middle there.front x there.back)))
