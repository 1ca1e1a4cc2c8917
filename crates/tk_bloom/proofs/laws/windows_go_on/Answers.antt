use Rattle.tk_bloom.proofs.Cutting.{window-append}
use Rattle.tk_bloom.proofs.laws.windows_go_on.Goals as goal

pub returns : goal.returns
returns c = λ n earlier later. window-append n earlier later
