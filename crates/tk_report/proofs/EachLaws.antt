-- What holds of each element of a list, and of those that pass a test.
use Rattle.std.proofs.Common.{◌≡◌, ◌+◌, refl, ap, sym, ◌∙◌, arith}
use Rattle.std.proofs.Common.{Bool, true, false, cond, List, [], ◌∷◌, ◌++◌, length, filter, find, count_by}
use Rattle.std.specs.Prelude.{◌&&◌, Some, None}
use Rattle.std.specs.List.{AllByRecursion}
use Rattle.std.proofs.lemmas.List.Sums.{sum_by-cons}

pub each-weaker : {X : Type 0} (P Q : X → Type 0) (xs : List X) → ((x : X) → P x → Q x) →
    AllByRecursion P xs → AllByRecursion Q xs
each-weaker P Q [] f all = tt
each-weaker P Q (x ∷ xs) f all = (f x all.0, each-weaker P Q xs f all.1)

pub each-front : {X : Type 0} (P : X → Type 0) (xs ys : List X) → AllByRecursion P (xs ++ ys) →
    AllByRecursion P xs
each-front P [] ys h = tt
each-front P (x ∷ xs) ys h = (h.0, each-front P xs ys h.1)

pub each-behind : {X : Type 0} (P : X → Type 0) (xs ys : List X) → AllByRecursion P (xs ++ ys) →
    AllByRecursion P ys
each-behind P [] ys h = h
each-behind P (x ∷ xs) ys h = each-behind P xs ys h.1

-- ---- those that pass a test

-- what a filter leaves passes its test
pub each-passes : {X : Type 0} (p : X → Bool) (xs : List X) →
    AllByRecursion (λ x. p x ≡ true) (filter p xs)
each-passes p [] = tt
each-passes p (x ∷ xs) =
    elim (p x) as (λ b. p x ≡ b →
    AllByRecursion (λ y. p y ≡ true) (cond b (x ∷ filter p xs) (filter p xs)))
    [ true ↦ λ e. (e, each-passes p xs) | false ↦ λ e. each-passes p xs ] refl

pub filter-none : {X : Type 0} (p : X → Bool) (xs : List X) →
    AllByRecursion (λ x. p x ≡ false) xs → filter p xs ≡ []
filter-none p [] all = refl
filter-none p (x ∷ xs) all =
    ap (λ b. cond b (x ∷ filter p xs) (filter p xs)) all.0 ∙ filter-none p xs all.1

filter-both : {X : Type 0} (p q : X → Bool) (xs : List X) →
    filter (λ x. p x && q x) xs ≡ filter q (filter p xs)
filter-both p q [] = refl
filter-both p q (x ∷ xs) =
    elim (p x) as (λ b.
    cond (b && q x) (x ∷ filter (λ y. p y && q y) xs) (filter (λ y. p y && q y) xs)
    ≡ filter q (cond b (x ∷ filter p xs) (filter p xs))) [
      | true ↦ ap (λ zs. cond (q x) (x ∷ zs) zs) (filter-both p q xs)
      | false ↦ filter-both p q xs
    ]

pub filter-swap : {X : Type 0} (p q : X → Bool) (xs : List X) →
    filter p (filter q xs) ≡ filter q (filter p xs)
filter-swap p q xs =
    sym (filter-both q p xs)
    ∙ ap (λ test. filter test xs) (λ i x. and-swap (q x) (p x) i)
    ∙ filter-both p q xs
  where
    and-swap : (a b : Bool) → (a && b) ≡ (b && a)
    and-swap true true = refl
    and-swap true false = refl
    and-swap false true = refl
    and-swap false false = refl

-- ---- the first that passes

pub find-none : {X : Type 0} (p : X → Bool) (xs : List X) → AllByRecursion (λ x. p x ≡ false) xs →
    find p xs ≡ None
find-none p [] all = refl
find-none p (x ∷ xs) all = ap (λ b. cond b (Some x) (find p xs)) all.0 ∙ find-none p xs all.1

pub find-past : {X : Type 0} (p : X → Bool) (xs ys : List X) →
    AllByRecursion (λ x. p x ≡ false) xs → find p (xs ++ ys) ≡ find p ys
find-past p [] ys all = refl
find-past p (x ∷ xs) ys all =
    ap (λ b. cond b (Some x) (find p (xs ++ ys))) all.0 ∙ find-past p xs ys all.1

-- a filter that lets through what is looked for changes nothing
pub find-filter : {X : Type 0} (p q : X → Bool) (xs : List X) →
    ((x : X) → p x ≡ true → q x ≡ true) → find p (filter q xs) ≡ find p xs
find-filter p q [] through = refl
find-filter p q (x ∷ xs) through =
    elim (p x) as (λ b. p x ≡ b →
    find p (cond (q x) (x ∷ filter q xs) (filter q xs)) ≡ cond b (Some x) (find p xs)) [
      | true ↦ λ e.
          ap (λ t. find p (cond t (x ∷ filter q xs) (filter q xs))) (through x e)
          ∙ ap (λ t. cond t (Some x) (find p (filter q xs))) e
      | false ↦ λ e.
          elim (q x) as (λ t. find p (cond t (x ∷ filter q xs) (filter q xs)) ≡ find p xs) [
            | true ↦
                ap (λ t. cond t (Some x) (find p (filter q xs))) e ∙ find-filter p q xs through
            | false ↦ find-filter p q xs through
          ]
    ] refl

-- ---- how many pass

pub count-none : {X : Type 0} (p : X → Bool) (xs : List X) → AllByRecursion (λ x. p x ≡ false) xs →
    count_by p xs ≡ 0
count-none p [] all = refl
count-none p (x ∷ xs) all =
    sum_by-cons (λ y. cond (p y) 1 0) x xs ∙ ap (λ b. cond b 1 0 + count_by p xs) all.0
    ∙ omega (arith, count-none p xs all.1)

pub count-all : {X : Type 0} (p : X → Bool) (xs : List X) → AllByRecursion (λ x. p x ≡ true) xs →
    count_by p xs ≡ length xs
count-all p [] all = refl
count-all p (x ∷ xs) all =
    sum_by-cons (λ y. cond (p y) 1 0) x xs ∙ ap (λ b. cond b 1 0 + count_by p xs) all.0
    ∙ omega (arith, count-all p xs all.1)
