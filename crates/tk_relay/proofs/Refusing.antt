-- One part alone: whether it is refused, and its reply.
use Rattle.std.proofs.Common.{◌≡◌, refl, subst, sym, arith, ℕ, List, [], ◌∷◌, Option, Some, None}
use Rattle.std.specs.Prelude.{All}
use Rattle.std.proofs.lemmas.List.Elements.{All-from_recursion}
use Rattle.std.specs.Option.{option_or}
use Rattle.tk_relay.specs.declared.part.Part.{Part}
use Rattle.tk_relay.specs.Refusals.{other_epoch, first_other_epoch}

or-none : {X : Type 0} (x : Option X) → option_or x None ≡ x
or-none None = refl
or-none (Some x) = refl

-- of one part it is its own
pub one-epoch : (number : ℕ) (p : Part) →
    first_other_epoch number (p ∷ []) ≡ other_epoch number p
one-epoch number p = or-none (other_epoch number p)

-- what it has, each of them has
pub all-one : {X : Type 0} (P : X → Type 0) (xs : List X) (x : X) → xs ≡ x ∷ [] → P x → All P xs
all-one P xs x one is =
    subst (All P) (sym one) (All-from_recursion P (x ∷ []) (is, tt))

-- the first of what is left is that of one element
pub head-is : {X : Type 0} (xs rest : List X) (x y : X) → xs ≡ x ∷ rest → xs ≡ y ∷ [] → x ≡ y
head-is xs rest x y first one = cc

-- what each of them has, the first has
pub head-has : {X : Type 0} (P : X → Type 0) (xs rest : List X) (x : X) → xs ≡ x ∷ rest →
    All P xs → P x
head-has P xs rest x first all = subst (All P) first all 0 x (omega arith)
