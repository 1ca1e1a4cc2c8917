use Rattle.tk_run.proofs.ResumingLaws.{accepted-where}
use Rattle.tk_run.proofs.laws.checkpoints_accepted.Goals as goal

pub returns : goal.returns
returns c = accepted-where c.saved_is_sound.ensures c.saved_reads_back.ensures
