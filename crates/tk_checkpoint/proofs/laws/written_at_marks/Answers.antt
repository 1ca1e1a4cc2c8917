use Rattle.tk_checkpoint.proofs.Written.{written-at_marks}
use Rattle.tk_checkpoint.proofs.laws.written_at_marks.Goals as goal

pub returns : goal.returns
returns c = λ shape E s is. written-at_marks shape E s is
