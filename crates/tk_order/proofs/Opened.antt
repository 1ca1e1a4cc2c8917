-- The seats of a new order, taken from the last one on.
use Rattle.std.proofs.Common.{◌≡◌, ℕ, suc, ◌+◌, List, [], ◌∷◌, ◌++◌, length}
use Rattle.std.proofs.Common.{Option, Some, None, IfSome, refl, ap, ◌∙◌, sym, arith, length-append}
use Rattle.std.specs.Option.{option_to_list}
use Rattle.tk_order.specs.Seats.{Seated, seated, opened}

none_last : {A : Type 0} (ys : List A) (x y : A) → ¬ ([] ≡ ys ++ y ∷ [])
none_last ys x y is = omega (arith, ap length is, length-append ys (y ∷ []))

-- lists that are the same with an element after each are the same, and so are the elements
pub same_last : {A : Type 0} (xs ys : List A) (x y : A) → xs ++ x ∷ [] ≡ ys ++ y ∷ [] →
    (xs ≡ ys) × (x ≡ y)
same_last [] [] x y is = (refl, cc is)
same_last [] (z ∷ ys) x y is = absurd (none_last ys x y (cc is))
same_last (z ∷ xs) [] x y is = absurd (none_last xs y x (cc is))
same_last (w ∷ xs) (z ∷ ys) x y is =
    let heads : w ≡ z = cc is in
    let rest = same_last xs ys x y (cc is) in
    (cc (heads, rest.0), rest.1)

-- the last of them, where there is one
pub last_opened : (n : ℕ) (xs : List Seated) (s : Option Seated) →
    opened (n + 1) ≡ xs ++ option_to_list s →
    IfSome s (λ s. (s ≡ seated [] (Some n)) × (xs ≡ opened n))
last_opened n xs None is = tt
last_opened n xs (Some s) is =
    let on : n + 1 ≡ suc n = omega arith in
    let last = same_last (opened n) xs (seated [] (Some n)) s (sym (ap opened on) ∙ is) in
    (sym last.1, sym last.0)
