use Rattle.std.proofs.Common.{◌∙◌}
use Rattle.tk_bloom.proofs.Windowing.{push_within, push_at}
use Rattle.tk_bloom.proofs.window.Window.hits_at.Goals as goal

pub part-requires : goal.part-requires
part-requires c =
    let low = rw (← c.self.view_is) at c.requires in
    push_within _ _ c.self.inside.tally c.self.invariant c.args.i low

pub returns : goal.returns
returns c d =
    let low = rw (← c.self.view_is) at c.requires in
    rw (← c.self.view_is)
    (c.part.ensures ∙ push_at _ _ c.self.inside.tally c.self.invariant c.args.i d low)
