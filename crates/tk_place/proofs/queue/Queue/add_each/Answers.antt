use Rattle.std.proofs.Common.{length, ap, arith}
use Rattle.tk_place.specs.Views.{Line}
use Rattle.tk_place.proofs.Lines.{length-places}
use Rattle.tk_place.proofs.queue.Queue.add_each.Goals as goal

pub take_each-self-inside-requires-clause-place : goal.take_each-self-inside-requires-clause-place
take_each-self-inside-requires-clause-place c =
    omega (arith, c.requires.place, ap (λ (v : Line). length v.places) c.self.view_is, length-places _ _ _ _ c.self.invariant.line)
