use Rattle.tk_table.proofs.Layouts.{displaced-without_end}
use Rattle.tk_table.proofs.laws.displaced_without_end.Goals as goal

pub returns : goal.returns
returns c = displaced-without_end
