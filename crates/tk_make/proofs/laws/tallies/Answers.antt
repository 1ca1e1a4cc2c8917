use Rattle.tk_make.proofs.TallyLaws.{outcomes-tally}
use Rattle.tk_make.proofs.laws.tallies.Goals as goal

pub returns : goal.returns
returns c = outcomes-tally
