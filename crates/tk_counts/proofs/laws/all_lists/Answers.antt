use Rattle.tk_counts.proofs.Counting.{each_once, none_else, all_counted}
use Rattle.tk_counts.proofs.laws.all_lists.Goals as goal

pub returns-clause-once : goal.returns-clause-once
returns-clause-once c = each_once

pub returns-clause-none_else : goal.returns-clause-none_else
returns-clause-none_else c = none_else

pub returns-clause-counted : goal.returns-clause-counted
returns-clause-counted c = all_counted
