use Rattle.tk_table.proofs.ReadingBack.{slots-read_back}
use Rattle.tk_table.proofs.laws.slots_read_back.Goals as goal

pub returns : goal.returns
returns c = slots-read_back
