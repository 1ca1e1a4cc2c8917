use Rattle.tk_bloom.proofs.Windowing.{sized_pushes}
use Rattle.tk_bloom.proofs.window.Window.sized.Goals as goal

pub returns : goal.returns
returns c = rw (← c.self.view_is) (sized_pushes _ _ c.self.inside.tally c.self.invariant)
