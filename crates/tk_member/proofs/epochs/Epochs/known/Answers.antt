-- The last epoch that all told is the least of the last ones.
use Rattle.std.proofs.Common.{◌∙◌, ap}
use Rattle.tk_member.specs.Epochs.{known, least_of}
use Rattle.tk_member.specs.Keeping.{EpochsState}
use Rattle.tk_member.proofs.Tellings.{known-is}
use Rattle.tk_member.proofs.epochs.Epochs.known.Goals as goal

pub returns-clause-known : goal.returns-clause-known
returns-clause-known c =
    let kept = c.self.inside in
    c.least.ensures.least
    ∙ ap (least_of kept.shape.phases) c.as_slice.ensures.value
    ∙ known-is kept.shape kept.marks.items kept.last.items c.self.invariant.within
    ∙ ap (λ (e : EpochsState). known e.shape e.told) c.self.view_is
