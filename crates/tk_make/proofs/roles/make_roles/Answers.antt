-- One more role stands after the others.
use Rattle.tk_make.specs.Making.{made_role}
use Rattle.tk_make.proofs.Ranges.{map_next}
use Rattle.tk_make.proofs.roles.make_roles.Goals as goal

pub loop-log-preserved : goal.loop-log-preserved
loop-log-preserved c =
    map_next made_role c.loop-log.log c.loop-log.invariant c.in_ok-push.ensures.items
    c.in_ok-make_role.ensures
