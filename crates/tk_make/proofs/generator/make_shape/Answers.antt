-- The numbers are in range.
use Rattle.tk_make.proofs.MadeShape.{in-range}
use Rattle.tk_make.proofs.generator.make_shape.Goals as goal

pub invariant_of-result : goal.invariant_of-result
invariant_of-result c = record { in_range = in-range }
