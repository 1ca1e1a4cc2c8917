use Rattle.tk_table.proofs.LaidOut.{layout-laid_out}
use Rattle.tk_table.proofs.laws.layout_holds.Goals as goal

pub returns : goal.returns
returns c = layout-laid_out
