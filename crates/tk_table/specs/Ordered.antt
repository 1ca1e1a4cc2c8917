-- Records as an order has them.
use Rattle.std.specs.Prelude.{ℕ, ◌+◌, ◌<◌, ◌≤◌, List, [], ◌∷◌}
use Rattle.std.specs.List.{AllByRecursion}
use Rattle.tk_shape.specs.declared.shape.Shape.{Shape}
use Rattle.tk_frames.specs.Order.{Record}

-- positions ascend from a number on
abbrev pub AscendFrom : ℕ → List Record → Type 0
AscendFrom p [] = Unit {0}
AscendFrom p (r ∷ rs) = (p ≤ r.position) × AscendFrom (r.position + 1) rs

-- both buckets of a record are among those of the table
pub record HasBuckets (shape : Shape) (r : Record) : Type 0 where
  pub first : r.write.first < shape.buckets
  pub second : r.write.second < shape.buckets

-- records with ascending positions from 1 on, and with buckets of the table
pub record AreOrdered (shape : Shape) (R : List Record) : Type 0 where
  pub ascend : AscendFrom 1 R
  pub within : AllByRecursion (HasBuckets shape) R
