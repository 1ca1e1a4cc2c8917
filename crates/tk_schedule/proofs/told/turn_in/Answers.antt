-- The turn passes its tests; where it doesn't close, its epochs are the newest before it.
use Rattle.std.proofs.Common.{◌∙◌, ap}
use Rattle.tk_schedule.specs.Due.{is_order, are_epochs}
use Rattle.tk_schedule.proofs.TurnLaws.{legal_turn, newest_are_epochs}
use Rattle.tk_schedule.proofs.told.turn_in.Goals as goal

pub returns-then-not-closes-clause-legal : goal.returns-then-not-closes-clause-legal
returns-then-not-closes-clause-legal c =
    legal_turn c.args.shape.now c.args.turn (record
    { order = c.in_ok-order.order; epochs = c.in_ok-epochs.epochs })
    (ap (is_order c.args.shape.now c.args.turn) c.in_ok-order.ensures
    ∙ c.in_ok-order_in.ensures.sound)
    (ap (are_epochs c.args.shape.now c.args.turn) c.in_ok-epochs.ensures
    ∙ newest_are_epochs c.args.shape.now c.args.turn)

pub returns-clause-legal : goal.returns-clause-legal
returns-clause-legal c =
    legal_turn c.args.shape.now c.args.turn (record
    { order = c.in_ok-order.order; epochs = c.in_ok-epochs-2.epochs })
    (ap (is_order c.args.shape.now c.args.turn) c.in_ok-order.ensures
    ∙ c.in_ok-order_in.ensures.sound)
    (ap (are_epochs c.args.shape.now c.args.turn) c.in_ok-epochs-2.ensures
    ∙ c.in_ok-epochs_in.ensures.sound)
