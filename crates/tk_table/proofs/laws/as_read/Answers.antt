use Rattle.tk_table.proofs.BucketBytes.{layout-as_read}
use Rattle.tk_table.proofs.laws.as_read.Goals as goal

pub returns : goal.returns
returns c = layout-as_read
