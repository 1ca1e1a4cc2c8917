-- The last text is the one that is looked at.
use Rattle.std.proofs.Common.{sym, rules}
use Rattle.tk_script.proofs.SaidLaws.{last_when-is, last_when-none}
use Rattle.tk_script.proofs.say_lines.last_when.Goals as goal

pub returns-in-Some : goal.returns-in-Some
returns-in-Some c =
    sym (last_when-is c.args.says.now c.in-Some.last.now (sym c.in-Some.ensures.value))

pub returns-in-None : goal.returns-in-None
returns-in-None c = sym (last_when-none c.args.says.now (search rules))
