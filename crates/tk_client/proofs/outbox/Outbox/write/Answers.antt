-- What is left can still be sent.
use Rattle.std.proofs.Common.{sym, subst}
use Rattle.tk_client.specs.Outboxes.{IsOutbox}
use Rattle.tk_client.proofs.Keeping.{after_write-sound}
use Rattle.tk_client.proofs.outbox.Outbox.write.Goals as goal

pub invariant_of-self : goal.invariant_of-self
invariant_of-self g c =
    subst (IsOutbox c.self.inside.shape c.self.inside.logs.items) (sym c.pop_front.ensures.rest)
    (after_write-sound c.self.inside.shape c.self.inside.logs.items c.self.inside.waiting.items
    c.self.invariant)
