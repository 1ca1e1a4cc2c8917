-- What is printed is read back.
use Rattle.tk_script.proofs.PrintedLaws.{prints_scripts}
use Rattle.tk_script.proofs.printing.print.Goals as goal

pub returns-clause-reads : goal.returns-clause-reads
returns-clause-reads c = prints_scripts c.args.script.now c.in_ok-push_script.ensures.has
