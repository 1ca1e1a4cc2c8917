use Rattle.std.proofs.Common.{ap, arith}
use Rattle.tk_handle.specs.Handle.{Place}
use Rattle.tk_handle.proofs.stream.fill.Goals as goal

pub fill-requires-clause-low : goal.fill-requires-clause-low
fill-requires-clause-low c = omega (arith, c.requires.low, ap (λ (p : Place). p.place) c.at.ensures)

pub returns : goal.returns
returns c = rw c.at.ensures at c.fill.ensures.bytes
