-- Sums over lists in which each element stands once, and so over all lists of a length.
use Rattle.std.proofs.Common.{◌≡◌, ℕ, zero, suc, ◌+◌, ◌*◌, ◌^◌, ◌<◌, ◌≤◌, Bool, true, false, cond}
use Rattle.std.proofs.Common.{List, [], ◌∷◌, length, map, refl, ap, ap₂, sym, ◌∙◌, arith, subst, eqb-true}
use Rattle.std.specs.Prelude.{◌&&◌, ◌==◌, count_by, flat_map}
use Rattle.std.specs.Bool.{Decides}
use Rattle.std.specs.List.{All, range_with_len, sum_by}
use Rattle.std.specs.Str.{bytes_eq}
use Rattle.std.proofs.lemmas.Bool.{eqb-false}
use Rattle.std.proofs.lemmas.List.FromFn.{get_or-range_with_len, length-range_with_len}
use Rattle.std.proofs.lemmas.List.Elements.{All-nil, All-cons, All-head, All-tail, All-append, All-map, All-weaker}
use Rattle.std.proofs.lemmas.List.Sums.{sum_by-cons, sum_by-append}
use Rattle.std.proofs.lemmas.List.{length-map}
use Rattle.std.proofs.lemmas.List.Concat.{length-flat_map}
use Rattle.std.proofs.Math.Nat.{mul_comm, pow-zero, pow-suc}
use Rattle.std.proofs.lemmas.Slice.Eq.{bytes_eq-Decides}
use Rattle.tk_counts.specs.Counts.{all_lists, IsListBelow, count_lists, IsUndoneBy}
use Rattle.tk_counts.specs.Laws.{EachOnce, NoneElse, AllCounted, AsMany}

-- ---- sums

-- functions that agree at each element have one sum
pub sum_by-same : {X : Type 0} (P : X → Type 0) (f g : X → ℕ) → ((x : X) → P x → f x ≡ g x) →
    (xs : List X) → All P xs → sum_by f xs ≡ sum_by g xs
sum_by-same P f g same [] all = refl
sum_by-same P f g same (x ∷ xs) all =
    sum_by-cons f x xs
    ∙ ap₂ (λ (a b : ℕ). a + b) (same x (All-head P x xs all))
    (sum_by-same P f g same xs (All-tail P x xs all))
    ∙ sym (sum_by-cons g x xs)

sum_by-zeros : {X : Type 0} (xs : List X) → sum_by (λ (x : X). 0) xs ≡ 0
sum_by-zeros [] = refl
sum_by-zeros {X} (x ∷ xs) = omega (arith, sum_by-cons (λ (x : X). 0) x xs, sum_by-zeros xs)

sum_by-add : {X : Type 0} (f g : X → ℕ) (xs : List X) →
    sum_by (λ x. f x + g x) xs ≡ sum_by f xs + sum_by g xs
sum_by-add f g [] = refl
sum_by-add f g (x ∷ xs) = omega (
  arith,
  sum_by-cons (λ x. f x + g x) x xs,
  sum_by-add f g xs,
  sum_by-cons f x xs,
  sum_by-cons g x xs,
)

-- a sum of sums, taken the other way round
sum_by-swap : {X Y : Type 0} (F : X → Y → ℕ) (xs : List X) (ys : List Y) →
    sum_by (λ x. sum_by (F x) ys) xs ≡ sum_by (λ y. sum_by (λ x. F x y) xs) ys
sum_by-swap F [] ys = sym (sum_by-zeros ys)
sum_by-swap {X} {Y} F (x ∷ xs) ys =
    sum_by-cons (λ x. sum_by (F x) ys) x xs
    ∙ ap (λ n. sum_by (F x) ys + n) (sum_by-swap F xs ys)
    ∙ sym (sum_by-add (F x) (λ y. sum_by (λ x. F x y) xs) ys)
    ∙ sym (sum_by-each (λ y. sum_by (λ x. F x y) (x ∷ xs))
    (λ y. F x y + sum_by (λ x. F x y) xs) (λ y. sum_by-cons (λ x. F x y) x xs) ys)
  where
    sum_by-each : (f g : Y → ℕ) → ((y : Y) → f y ≡ g y) → (ys : List Y) → sum_by f ys ≡ sum_by g ys
    sum_by-each f g same ys = ap (λ (f : Y → ℕ). sum_by f ys) (λ i y. same y i)

-- as often one number as a test passes
sum_by-times : {X : Type 0} (p : X → Bool) (n : ℕ) (xs : List X) →
    sum_by (λ x. cond (p x) n 0) xs ≡ n * count_by p xs
sum_by-times p n [] = omega arith
sum_by-times p n (x ∷ xs) =
    sum_by-cons (λ x. cond (p x) n 0) x xs
    ∙ ap (λ k. cond (p x) n 0 + k) (sum_by-times p n xs)
    ∙ once (p x) (count_by p xs)
    ∙ ap (λ k. n * k) (sym (sum_by-cons (λ x. cond (p x) 1 0) x xs))
  where
    once : (b : Bool) (c : ℕ) → cond b n 0 + n * c ≡ n * (cond b 1 0 + c)
    once true c = omega arith
    once false c = omega arith

sum_by-one : {X : Type 0} (n : ℕ) (xs : List X) → sum_by (λ x. n) xs ≡ length xs * n
sum_by-one n [] = omega arith
sum_by-one n (x ∷ xs) = omega (arith, sum_by-cons (λ x. n) x xs, sum_by-one n xs)

sum_by-map : {X Y : Type 0} (f : Y → ℕ) (g : X → Y) (xs : List X) →
    sum_by f (map g xs) ≡ sum_by (λ x. f (g x)) xs
sum_by-map f g [] = refl
sum_by-map f g (x ∷ xs) =
    sum_by-cons f (g x) (map g xs)
    ∙ ap (λ n. f (g x) + n) (sum_by-map f g xs)
    ∙ sym (sum_by-cons (λ x. f (g x)) x xs)

sum_by-flat_map : {X Y : Type 0} (f : Y → ℕ) (g : X → List Y) (xs : List X) →
    sum_by f (flat_map g xs) ≡ sum_by (λ x. sum_by f (g x)) xs
sum_by-flat_map f g [] = refl
sum_by-flat_map f g (x ∷ xs) =
    sum_by-append f (g x) (flat_map g xs)
    ∙ ap (λ n. sum_by f (g x) + n) (sum_by-flat_map f g xs)
    ∙ sym (sum_by-cons (λ x. sum_by f (g x)) x xs)

-- ---- a list in which each element with a property stands once, and no other

same_test : (a b : Bool) → (a ≡ true → b ≡ true) → (b ≡ true → a ≡ true) → a ≡ b
same_test true b there back = sym (there refl)
same_test false true there back = back refl
same_test false false there back = refl

module _ {X : Type 0} (same : X → X → Bool) (decides : (x y : X) → Decides (same x y) (x ≡ y))
    (P : X → Type 0) (xs : List X) (are : All P xs)
    (once : (x : X) → P x → count_by (λ y. same y x) xs ≡ 1) where
  alike : (weight : X → ℕ) (x y : X) →
      cond (same y x) (weight y) 0 ≡ cond (same y x) (weight x) 0
  alike weight x y =
      elim (same y x) as (λ b. same y x ≡ b → cond b (weight y) 0 ≡ cond b (weight x) 0) [
        | true ↦ λ e. ap weight ((decides y x).0 e)
        | false ↦ λ e. refl
      ] refl

  -- the weight of one element
  weight-of : (weight : X → ℕ) (x : X) → P x →
      sum_by (λ y. cond (same y x) (weight y) 0) xs ≡ weight x
  weight-of weight x is =
      sum_by-same P (λ y. cond (same y x) (weight y) 0) (λ y. cond (same y x) (weight x) 0)
      (λ y _. alike weight x y) xs are
      ∙ sum_by-times (λ y. same y x) (weight x) xs
      ∙ ap (λ n. weight x * n) (once x is)
      ∙ omega arith

  module _ (f g : X → X) (in_f : (x : X) → P x → P (f x)) (in_g : (x : X) → P x → P (g x))
      (back : (x : X) → P x → g (f x) ≡ x) (again : (x : X) → P x → f (g x) ≡ x) where
    -- of one element there is one from which it comes
    from_one : (y : X) → P y → count_by (λ x. same y (f x)) xs ≡ 1
    from_one y is =
        sum_by-same P (λ x. cond (same y (f x)) 1 0) (λ x. cond (same x (g y)) 1 0)
        (λ x this. ap {B = ℕ} (λ b. cond b 1 0) (same_test (same y (f x)) (same x (g y))
        (λ e. (decides x (g y)).1 (sym (ap g ((decides y (f x)).0 e) ∙ back x this)))
        (λ e. (decides y (f x)).1 (sym (ap f ((decides x (g y)).0 e) ∙ again y is))))) xs are
        ∙ once (g y) (in_g y is)

    -- what is done one to one keeps every sum
    pub sum_by-one_to_one : (weight : X → ℕ) → sum_by (λ x. weight (f x)) xs ≡ sum_by weight xs
    sum_by-one_to_one weight =
        sym (sum_by-same P (λ x. sum_by (λ y. cond (same y (f x)) (weight y) 0) xs)
        (λ x. weight (f x)) (λ x is. weight-of weight (f x) (in_f x is)) xs are)
        ∙ sum_by-swap (λ x y. cond (same y (f x)) (weight y) 0) xs xs
        ∙ sum_by-same P (λ y. sum_by (λ x. cond (same y (f x)) (weight y) 0) xs) weight
        (λ y is. sum_by-times (λ x. same y (f x)) (weight y) xs
        ∙ ap (λ n. weight y * n) (from_one y is) ∙ omega arith) xs are

-- ---- the lists of a length

none_in_range : (x a n : ℕ) → x < a → count_by (λ k. k == x) (range_with_len a n) ≡ 0
none_in_range x a zero low = refl
none_in_range x a (suc n) low =
    sum_by-cons (λ k. cond (k == x) 1 0) a (range_with_len (a + 1) n)
    ∙ ap₂ (λ (m n : ℕ). m + n) (other (a == x) refl) (none_in_range x (a + 1) n (omega arith))
  where
    other : (b : Bool) → (a == x) ≡ b → cond {A = ℕ} b 1 0 ≡ 0
    other true e = absurd (omega (arith, eqb-true a x e))
    other false e = refl

once_in_range : (x a n : ℕ) → a ≤ x → x < a + n →
    count_by (λ k. k == x) (range_with_len a n) ≡ 1
once_in_range x a zero low high = absurd (omega arith)
once_in_range x a (suc n) low high =
    sum_by-cons (λ k. cond (k == x) 1 0) a (range_with_len (a + 1) n)
    ∙ here (a == x) refl
    (λ higher. once_in_range x (a + 1) n (omega (arith, higher)) (omega (arith, high)))
  where
    rest : ℕ
    rest = count_by (λ k. k == x) (range_with_len (a + 1) n)

    lower : ¬ (a ≡ x) → a < x
    lower other = omega (arith, other)

    here : (b : Bool) → (a == x) ≡ b → (a < x → rest ≡ 1) → cond {A = ℕ} b 1 0 + rest ≡ 1
    here true e later = omega (
      arith,
      none_in_range x (a + 1) n (omega (arith, eqb-true a x e)),
    )
    here false e later = omega (arith, later (lower (eqb-false a x e)))

-- where a number comes before each
count_by-and : (b : Bool) (q : List ℕ → Bool) (xs : List (List ℕ)) →
    count_by (λ x. b && q x) xs ≡ cond b (count_by q xs) 0
count_by-and true q xs = refl
count_by-and false q xs = sum_by-zeros xs

in_range : (bound : ℕ) → All (λ k. k < bound) (range_with_len 0 bound)
in_range bound k d low =
    let within : k < bound = omega (arith, length-range_with_len 0 bound) in
    subst (λ n. n < bound) (sym (get_or-range_with_len 0 bound k d within)) (omega arith)

pub each_once : EachOnce
unfolding all_lists
each_once bound zero [] is = refl
each_once bound zero (x ∷ xs) is = absurd (omega (arith, is.counted))
each_once bound (suc n) [] is = absurd (omega (arith, is.counted))
each_once bound (suc n) (x ∷ xs) is =
    let lists : List (List ℕ) = all_lists bound n in
    let one : count_by (λ ys. bytes_eq ys xs) lists ≡ 1 = each_once bound n xs (record {
      counted = omega (arith, is.counted);
      below = All-tail (λ x. x < bound) x xs is.below;
    }) in
    let fronts : List ℕ = range_with_len 0 bound in
    let this : List ℕ → ℕ = λ ys. cond (bytes_eq ys (x ∷ xs)) 1 0 in
    sum_by-flat_map this (λ front. map (λ rest. front ∷ rest) lists) fronts
    ∙ sum_by-same (λ k. k < bound) (λ front. sum_by this (map (λ rest. front ∷ rest) lists))
    (λ front. cond (front == x) 1 0)
    (λ front low. sum_by-map this (λ rest. front ∷ rest) lists
    ∙ count_by-and (front == x) (λ ys. bytes_eq ys xs) lists
    ∙ ap (λ m. cond (front == x) m 0) one) fronts (in_range bound)
    ∙ once_in_range x 0 bound (omega arith)
    (omega (arith, All-head (λ x. x < bound) x xs is.below))

All-flat_map : {X Y : Type 0} (Q : X → Type 0) (P : Y → Type 0) (f : X → List Y) →
    ((x : X) → Q x → All P (f x)) → (xs : List X) → All Q xs → All P (flat_map f xs)
All-flat_map Q P f each [] all = All-nil P
All-flat_map Q P f each (x ∷ xs) all =
    All-append P (f x) (flat_map f xs) (each x (All-head Q x xs all))
    (All-flat_map Q P f each xs (All-tail Q x xs all))

pub none_else : NoneElse
unfolding all_lists
none_else bound zero =
    All-cons (IsListBelow bound zero) [] [] (record { counted = refl; below = All-nil (λ x. x < bound) })
    (All-nil (IsListBelow bound zero))
none_else bound (suc n) =
    All-flat_map (λ k. k < bound) (IsListBelow bound (suc n))
    (λ front. map (λ rest. front ∷ rest) (all_lists bound n))
    (λ front low. All-map (IsListBelow bound (suc n)) (λ rest. front ∷ rest) (all_lists bound n)
    (All-weaker (IsListBelow bound n) (λ rest. IsListBelow bound (suc n) (front ∷ rest))
    (λ rest is. record {
      counted = omega (arith, is.counted);
      below = All-cons (λ x. x < bound) front rest low is.below;
    }) (all_lists bound n) (none_else bound n)))
    (range_with_len 0 bound) (in_range bound)

pub all_counted : AllCounted
unfolding all_lists
all_counted bound zero = sym (pow-zero bound)
all_counted bound (suc n) =
    let lists : List (List ℕ) = all_lists bound n in
    length-flat_map (λ front. map (λ rest. front ∷ rest) lists) (range_with_len 0 bound)
    ∙ sum_by-same (λ k. k < bound) (λ front. length (map (λ rest. front ∷ rest) lists))
    (λ front. bound ^ n)
    (λ front low. length-map lists (λ rest. front ∷ rest) ∙ all_counted bound n)
    (range_with_len 0 bound) (in_range bound)
    ∙ sum_by-one (bound ^ n) (range_with_len 0 bound)
    ∙ ap (λ m. m * bound ^ n) (length-range_with_len 0 bound)
    ∙ mul_comm bound (bound ^ n)
    ∙ sym (pow-suc bound n)

-- ---- changes of them

pub as_many : AsMany
as_many bound n f g there back test =
    sum_by-one_to_one bytes_eq bytes_eq-Decides (IsListBelow bound n) (all_lists bound n)
    (none_else bound n) (each_once bound n) f g there.stays back.stays there.back back.back
    (λ xs. cond (test xs) 1 0)

-- where one thing shows of a list what another shows of the changed list, they show as often what
-- passes a test
pub shown-as_often : {X : Type 0} (bound n : ℕ) (f g : List ℕ → List ℕ) → IsUndoneBy bound n f g →
    IsUndoneBy bound n g f → (one other : List ℕ → X) →
    ((xs : List ℕ) → IsListBelow bound n xs → one xs ≡ other (f xs)) → (test : X → Bool) →
    count_lists bound n (λ xs. test (one xs)) ≡ count_lists bound n (λ xs. test (other xs))
shown-as_often bound n f g there back one other shows test =
    sum_by-same (IsListBelow bound n) (λ xs. cond (test (one xs)) 1 0)
    (λ xs. cond (test (other (f xs))) 1 0)
    (λ xs is. ap {B = ℕ} (λ x. cond (test x) 1 0) (shows xs is)) (all_lists bound n)
    (none_else bound n)
    ∙ as_many bound n f g there back (λ xs. test (other xs))
