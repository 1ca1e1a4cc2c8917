-- Lists in order that grow at their end.
use Rattle.std.proofs.Common.{◌≡◌, ◌∙◌, ◌-◌, suc, arith, Some, List, length, [], ◌∷◌, ◌++◌, Bool, true, false, ◌&&◌, IsTrue, refl, ap, sym}
use Rattle.std.specs.Prelude.{slice_get}
use Rattle.std.proofs.lemmas.Bool.{and_parts, and_from}
use Rattle.std.proofs.lemmas.Option.{same_Some}
use Rattle.tk_script.specs.Ordered.{are_ordered, follows}

pub and_true : (a : Bool) → (a && true) ≡ a
and_true true = refl
and_true false = refl

module _ {X : Type 0} (may : X → X → Bool) where
  -- an item may come after others where the list with it is in order
  pub follows-push : (xs : List X) (x : X) → IsTrue (are_ordered may xs) →
      follows may xs x ≡ are_ordered may (xs ++ x ∷ [])
  follows-push [] x ordered = refl
  follows-push (a ∷ []) x ordered = sym (and_true (may a x))
  follows-push (a ∷ b ∷ xs) x ordered =
      let split = and_parts (may a b) (are_ordered may (b ∷ xs)) ordered in
      follows-push (b ∷ xs) x split.1
      ∙ ap (λ t. t && are_ordered may (b ∷ (xs ++ x ∷ []))) (sym split.0)

  -- what an item has to come after is the last of them
  pub follows-last : (xs : List X) (last x : X) → slice_get xs (length xs - 1) ≡ Some last →
      follows may xs x ≡ may last x
  follows-last [] last x at = absurd (cc at)
  follows-last (a ∷ []) last x at = ap (λ y. may y x) (same_Some a last at)
  follows-last (a ∷ b ∷ xs) last x at =
      let shift : length (a ∷ b ∷ xs) - 1 ≡ suc (length (b ∷ xs) - 1) = omega arith in
      follows-last (b ∷ xs) last x (ap (slice_get (a ∷ b ∷ xs)) (sym shift) ∙ at)

  -- items in order are so up to each of them
  pub ordered-front : (xs : List X) (x : X) (more : List X) →
      IsTrue (are_ordered may (xs ++ x ∷ more)) → IsTrue (are_ordered may (xs ++ x ∷ []))
  ordered-front [] x more ordered = refl
  ordered-front (a ∷ []) x more ordered =
      let split = and_parts (may a x) (are_ordered may (x ∷ more)) ordered in
      and_from (may a x) true split.0 refl
  ordered-front (a ∷ b ∷ xs) x more ordered =
      let split = and_parts (may a b) (are_ordered may (b ∷ (xs ++ x ∷ more))) ordered in
      and_from (may a b) (are_ordered may (b ∷ (xs ++ x ∷ []))) split.0
      (ordered-front (b ∷ xs) x more split.1)
