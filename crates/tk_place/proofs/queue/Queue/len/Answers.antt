use Rattle.std.proofs.Common.{length, sym, ap, ◌∙◌}
use Rattle.tk_place.specs.Views.{Line}
use Rattle.tk_place.proofs.Lines.{length-places}
use Rattle.tk_place.proofs.queue.Queue.len.Goals as goal

pub returns-clause-len : goal.returns-clause-len
returns-clause-len c =
    sym (length-places _ _ _ _ c.self.invariant.line) ∙ ap (λ (v : Line). length v.places) c.self.view_is
