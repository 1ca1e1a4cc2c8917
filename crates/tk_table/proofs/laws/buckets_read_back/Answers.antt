use Rattle.tk_table.proofs.BucketBytes.{layout-read_back}
use Rattle.tk_table.proofs.laws.buckets_read_back.Goals as goal

pub returns : goal.returns
returns c = layout-read_back
