-- The new state may have seen more, and the epoch is the same in what was seen before.
use Rattle.std.proofs.Common.{◌≡◌, ◌∙◌, ◌<◌, ◌≤◌, ap, subst, arith, length, List, MatchOption}
use Rattle.std.specs.Arc.{arc_value}
use mathlib.Core.List.{IsPrefix}
use Rattle.tk_frames.specs.declared.entry.Placed.{Placed}
use Rattle.tk_replica.specs.Following.{marks_among, IsEpochAt}
use Rattle.tk_replica.proofs.LastMarks.{epoch-front}
use Rattle.tk_replica.proofs.followed.Followed.epoch.Goals as goal

pub returns-clause-epoch : goal.returns-clause-epoch
returns-clause-epoch g c =
    let shape = g.B.Naming.shape in
    let upto = c.args.upto in
    let old = c.args.self.now in
    let again = c.catch_up.new.self in
    let seen_is = ap (λ x. x.list) c.self.view_is in
    let same : c.in_ok-again.again.list ≡ old.list =
    c.in_ok-again.ensures.list ∙ (ap (λ x. x.seen) c.split-seat.ensures.new ∙ seen_is) in
    let inside = (c.self.invariant).within in
    let within : upto ≤ length old.list =
    omega (
      arith,
      c.requires,
      ap (λ x. x.state.applied) c.self.view_is,
      inside,
      ap length seen_is,
    ) in
    epoch-front shape old.list again.list upto (arc_value c.in-Some-2.epoch)
    (subst (λ (E : List Placed). IsPrefix E again.list) same c.in_ok-catch_up.ensures.sees)
    c.in_order.ensures within
    (subst (λ o. MatchOption o (marks_among upto again.list < again.state.floor)
    (λ e. IsEpochAt shape again.list upto (arc_value e))) c.in-Some-2.is c.in_ok-epoch-2.ensures)
