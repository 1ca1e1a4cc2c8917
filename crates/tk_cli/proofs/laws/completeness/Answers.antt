-- A text spells one input.
use Rattle.tk_cli.proofs.CompleteLaws.{completes}
use Rattle.tk_cli.proofs.laws.completeness.Goals as goal

pub returns : goal.returns
returns c = completes c.one_input.ensures.only
