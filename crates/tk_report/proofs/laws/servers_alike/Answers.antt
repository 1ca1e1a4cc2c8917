use Rattle.tk_report.proofs.AnewLaws.{alike-runs, anew-from-own}
use Rattle.tk_report.proofs.laws.servers_alike.Goals as goal

pub returns-clause-alike : goal.returns-clause-alike
returns-clause-alike c = alike-runs

pub returns-clause-anew : goal.returns-clause-anew
returns-clause-anew c = anew-from-own
