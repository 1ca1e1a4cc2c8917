use Rattle.tk_kernel.proofs.Fronts.{zip2_is}
use Rattle.tk_kernel.proofs.nibbles.plus.Goals as goal

pub returns : goal.returns
returns g c = zip2_is _ _
