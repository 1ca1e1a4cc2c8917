-- Which mirrors are refused, and why.
use Rattle.std.specs.Prelude.{◌≡◌, ℕ, ◌==◌, nat_lt, ◌||◌, cond, Option, Some, None}
use Rattle.tk_shape.specs.declared.shape.Shape.{Shape}
use Rattle.tk_shape.specs.declared.differs.Differs.{Differs}
use Rattle.tk_shape.specs.Differences.{first_difference}
use Rattle.tk_privacy.specs.declared.mirror_error.MirrorError.{MirrorError}
use Rattle.tk_privacy.specs.declared.mirror_error.MirrorError.TheVariants.{Shapes, Hidden, Memory}

-- a server that isn't one of those numbered from 1
abbrev pub hidden_refusal : Shape → ℕ → Option MirrorError
hidden_refusal shape h =
    cond (h == 0 || nat_lt shape.servers h) (Some (Hidden h shape.servers)) None

-- shapes that differ, named by their first difference
abbrev pub shapes_refusal : Option Differs → Option MirrorError → Option MirrorError
shapes_refusal (Some differs) behind = Some (Shapes differs)
shapes_refusal None behind = behind

-- why the mirror of two scripts of these shapes is refused, if it is
abbrev pub mirror_refusal : Shape → Shape → ℕ → Option MirrorError
mirror_refusal a b h = shapes_refusal (first_difference a b) (hidden_refusal a h)

-- a refusal is this one; where there is none, that memory ran out
abbrev pub IsMirrorRefusal : Option MirrorError → MirrorError → Type 0
IsMirrorRefusal None error = error ≡ Memory
IsMirrorRefusal (Some refusal) error = error ≡ refusal
