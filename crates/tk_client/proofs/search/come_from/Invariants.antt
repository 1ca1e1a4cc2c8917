-- The positions of the logs so far come from where the book's do.
use Rattle.tk_client.specs.Vain.{AreOrigins}
use Rattle.tk_client.proofs.search.come_from.Given as goal

abbrev pub invariant-loop-place : goal.invariant-loop-place
invariant-loop-place g l =
    AreOrigins l.sight.shape.now (g.D.Draws.book l.sight.draws.now) l.follows l.positions l.place
