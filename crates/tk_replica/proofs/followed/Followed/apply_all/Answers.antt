-- Each entry comes next in the list.
use Rattle.std.proofs.Common.{◌∙◌, ap, slice_get}
use Rattle.std.specs.Arc.{arc_value}
use Rattle.tk_replica.proofs.Following.{entry-at}
use Rattle.tk_replica.proofs.followed.Followed.apply_all.Goals as goal

pub apply-requires : goal.apply-requires
apply-requires g c =
    let old = c.args.self.now in
    let now = c.loop-placed.self in
    let so_far = c.loop-placed.invariant in
    ap (λ E. slice_get E now.state.applied) so_far.list
    ∙ (ap (slice_get old.list) so_far.applied
    ∙ entry-at (λ a. arc_value a) c.args.entries.now old.state.applied c.loop-placed.placed-index
    c.placed-item.result c.deref.result.now old.list c.requires c.loop-placed-test.true
    c.placed-item.is c.deref.ensures)
