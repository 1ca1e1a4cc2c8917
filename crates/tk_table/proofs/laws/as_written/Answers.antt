use Rattle.tk_table.proofs.AsWritten.{layout-as_written}
use Rattle.tk_table.proofs.laws.as_written.Goals as goal

pub returns : goal.returns
returns c = layout-as_written
