use Rattle.tk_bloom.proofs.Showing.{is_shown-positions_of}
use Rattle.tk_bloom.proofs.laws.pushes_are_shown.Goals as goal

pub returns : goal.returns
returns c = λ pushes hits among. is_shown-positions_of pushes hits among
