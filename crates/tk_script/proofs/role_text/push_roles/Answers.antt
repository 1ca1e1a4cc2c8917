-- One more line stands after the others.
use Rattle.std.proofs.Common.{◌<◌, length, arith}
use Rattle.tk_script.specs.Grammar.{role_line}
use Rattle.tk_script.proofs.TextOfLaws.{text_of-next}
use Rattle.tk_script.proofs.role_text.push_roles.Goals as goal

pub loop-role-preserved : goal.loop-role-preserved
loop-role-preserved c =
    let roles = c.args.roles.now in
    let within : c.loop-role.role-index < length roles = omega arith in
    text_of-next role_line roles c.loop-role.role-index c.role-item.result c.args.out.now.items
    within c.role-item.is c.loop-role.invariant c.in_ok-push_role.ensures.ok
