use Rattle.std.proofs.Common.{ap, arith}
use Rattle.tk_handle.specs.Handle.{Place}
use Rattle.tk_handle.proofs.stream.word.Goals as goal

pub next_word-requires : goal.next_word-requires
next_word-requires c = omega (arith, c.requires, ap (λ (p : Place). p.place) c.at.ensures)

pub returns : goal.returns
returns c = rw c.at.ensures at c.next_word.ensures.word
