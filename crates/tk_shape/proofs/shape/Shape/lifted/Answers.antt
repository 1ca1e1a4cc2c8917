use Rattle.std.proofs.Common.{refl}
use Rattle.tk_shape.specs.Lifting.{lifted_shape}
use Rattle.tk_shape.proofs.OneShape.{one_shape}
use Rattle.tk_shape.proofs.shape.Shape.lifted.Goals as goal

pub returns : goal.returns
returns c = one_shape _ (lifted_shape c.args.self.now) refl refl
