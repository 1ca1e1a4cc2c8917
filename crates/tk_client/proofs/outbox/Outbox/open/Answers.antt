-- Nothing waits in a new outbox.
use Rattle.std.proofs.Common.{sym, subst, map}
use Rattle.tk_client.specs.Writing.{unwritten}
use Rattle.tk_client.specs.Outboxes.{IsOutbox}
use Rattle.tk_client.proofs.Keeping.{opened-sound}
use Rattle.tk_client.proofs.outbox.Outbox.open.Goals as goal

pub invariant_of-result : goal.invariant_of-result
invariant_of-result c =
    subst (λ l. IsOutbox c.args.shape.now l c.new.result.items) (sym c.in_ok-unwritten.ensures)
    (subst (λ w. IsOutbox c.args.shape.now (map unwritten c.args.logs.now) w)
    (sym c.new.ensures.items)
    (opened-sound c.args.shape.now c.args.logs.now c.requires.ascending c.requires.logs_in))
