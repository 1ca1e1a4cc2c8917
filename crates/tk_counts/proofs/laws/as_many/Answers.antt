use Rattle.tk_counts.proofs.Counting.{as_many}
use Rattle.tk_counts.proofs.laws.as_many.Goals as goal

pub returns : goal.returns
returns c = as_many
