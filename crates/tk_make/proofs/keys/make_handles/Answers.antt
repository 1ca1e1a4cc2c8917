-- One more handle stands after the others.
use Rattle.std.proofs.Common.{◌∙◌, ap}
use Rattle.tk_make.specs.Making.{made_handle}
use Rattle.tk_make.proofs.Ranges.{map_next}
use Rattle.tk_make.proofs.keys.make_handles.Goals as goal

pub loop-log-preserved : goal.loop-log-preserved
loop-log-preserved c =
    map_next (made_handle c.args.root.now) c.loop-log.log c.loop-log.invariant
    c.in_ok-push.ensures.items
    (c.from_root.ensures ∙ ap (made_handle c.args.root.now) c.from.ensures)
