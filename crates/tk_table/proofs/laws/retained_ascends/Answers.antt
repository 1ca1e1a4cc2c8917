use Rattle.tk_table.proofs.Ascending.{retained-ascend}
use Rattle.tk_table.proofs.laws.retained_ascends.Goals as goal

pub returns : goal.returns
returns c = retained-ascend
