-- They count what they take.
use Rattle.tk_run.proofs.servers.ServersTakes.taken.Goals as goal

pub returns : goal.returns
returns c = λ was shape E F have. have.taken
