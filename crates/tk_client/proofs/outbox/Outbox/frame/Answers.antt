-- The log of a text that waits is one of the shape.
use Rattle.std.proofs.Common.{◌<◌, refl, sym, subst, arith, length}
use Rattle.tk_client.specs.Outboxes.{CanWait}
use Rattle.tk_client.proofs.LogPlaces.{written-in}
use Rattle.tk_client.proofs.outbox.Outbox.frame.Goals as goal

pub text_write-requires-clause-log_in : goal.text_write-requires-clause-log_in
text_write-requires-clause-log_in g c κs within =
    let some : 0 < length c.self.inside.waiting.items =
    omega (arith, c.in-Some.ensures.variant.0 refl, c.self.inside.waiting.ok.0)
    in
    let can : CanWait c.self.inside.shape c.self.inside.logs.items c.in-Some.first.now =
    subst (CanWait c.self.inside.shape c.self.inside.logs.items) (sym c.in-Some.ensures.lookup)
    (c.self.invariant.texts 0 c.in-Some.first.now some)
    in
    written-in c.self.inside.shape.logs c.in-Some.first.now.log c.self.inside.logs.items
    c.self.invariant.logs_in can.log
