use Rattle.std.proofs.Common.{ap, arith}
use Rattle.tk_handle.specs.Handle.{Place}
use Rattle.tk_handle.proofs.stream.remainders.Goals as goal

pub remainders-requires-clause-low : goal.remainders-requires-clause-low
remainders-requires-clause-low c = omega (arith, c.requires.low, ap (λ (p : Place). p.place) c.at.ensures)

pub returns-clause-words : goal.returns-clause-words
returns-clause-words c = rw c.at.ensures at c.remainders.ensures.words
