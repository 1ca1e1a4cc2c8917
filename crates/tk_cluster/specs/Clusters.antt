-- What a cluster is opened with, and what meets.
use Rattle.std.specs.Prelude.{◌≡◌, List, [], ◌∷◌, map}
use Rattle.std.specs.List.{range_with_len}
use mathlib.Core.List.{IsPrefix}
use Rattle.tk_shape.specs.declared.shape.Shape.{Shape}
use Rattle.tk_order.specs.Legality.{IsLegal}
use Rattle.tk_cluster.specs.declared.set.EpochSet.{EpochSet}
use Rattle.tk_cluster.specs.Sets.{StandsAtMark}
use Rattle.tk_cluster.specs.Passes.{Passing, MeetsAt, fresh}
use Rattle.tk_cluster.specs.Tellings.{Telling, marks}

-- nothing is ordered, the set of epoch 0 is shown, and there is a pass for each client, by number
pub record Opened (shape : Shape) (p : Telling) (passes : List Passing) : Type 0 where
  pub seen : p.seen ≡ []
  pub first : EpochSet
  pub shown : p.shown ≡ first ∷ []
  pub stands : StandsAtMark shape [] 0 first
  pub all : passes ≡ map (fresh p.board first) (range_with_len 0 shape.clients)

-- the step holds between the two lists, place by place
abbrev pub Each : {X : Type 0} → (X → X → Type 0) → List X → List X → Type 0
Each R [] [] = Unit {0}
Each R (x ∷ xs) (y ∷ ys) = R x y × Each R xs ys
Each R [] (y ∷ ys) = ⊥
Each R (x ∷ xs) [] = ⊥

-- All have seen one list, which begins with what each had seen. None ordered anything.
pub record HaveMet (shape : Shape) (xs : List Passing) (p : Telling) (ys : List Passing) (q : Telling)
    : Type 0 where
  pub passes : Each (MeetsAt q.seen) xs ys
  pub begins : IsPrefix p.seen q.seen
  pub marks : marks q ≡ marks p
  pub board : q.board ≡ p.board
  pub shown : q.shown ≡ p.shown
  pub legal : IsLegal shape q.seen
