use Rattle.tk_answer.proofs.Runs.{run_of_slice}
use Rattle.tk_answer.proofs.laws.parts_are_runs.Goals as goal

pub returns : goal.returns
returns c = run_of_slice
