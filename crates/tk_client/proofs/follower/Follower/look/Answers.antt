-- The logs that are followed stay the shape's.
use Rattle.std.proofs.Common.{◌≡◌, ◌∙◌, ap}
use Rattle.tk_client.specs.Reader.{Reader, at_epoch, after_read}
use Rattle.tk_client.proofs.ClientLaws.{below-after}
use Rattle.tk_client.proofs.follower.Follower.look.Goals as goal

pub invariant_of-self-2 : goal.invariant_of-self-2
invariant_of-self-2 g c =
    let was = c.self.inside in
    let target = c.target-target in
    let after = c.take.new.self in
    let taken : after
    ≡ after_read was.shape (at_epoch c.args.epoch was.reader) target.result c.in_ok-text.text =
    c.in_ok-take.ensures.taken
    ∙ ap (λ (r : Reader). after_read was.shape (at_epoch c.args.epoch r) target.result
    c.in_ok-text.text) target.ensures.same
    in
    below-after was.shape c.args.epoch was.reader after target.result c.in_ok-text.text taken
    target.ensures.in_range c.self.invariant
