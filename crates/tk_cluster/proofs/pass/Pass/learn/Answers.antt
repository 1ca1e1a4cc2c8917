-- Of the set that it held and the last one that was told it holds the newer.
use Rattle.std.proofs.Common.{◌∙◌, ◌<◌, ◌≤◌, subst, sym, ap, arith}
use Rattle.std.specs.Arc.{arc_value}
use Rattle.tk_board.specs.Boards.{IsLast}
use Rattle.tk_cluster.specs.declared.set.EpochSet.{EpochSet}
use Rattle.tk_cluster.specs.Passes.{Passing, ReadsOnly, Learns}
use Rattle.tk_cluster.proofs.Passing.{passing, reading, reads_on, still, learns_old, learns_new, holds_told}
use Rattle.tk_cluster.proofs.pass.Pass.learn.Goals as goal

pub invariant_of-self-then-number : goal.invariant_of-self-then-number
invariant_of-self-then-number g c =
    let s = c.self.inside in
    let told = c.args.told.now in
    let last : IsLast told.list (arc_value c.in_ok-newest.newest) =
    subst (IsLast told.list) (sym c.in_ok-newest.ensures) c.value.ensures in
    holds_told g.B.Naming.shape s.seat s.client s.reader c.learn.new.self s.held c.self.invariant
    told c.in_ok-newest.newest c.in-Ok.ensures.ok c.fits.ensures last

pub invariant_of-self-else-number : goal.invariant_of-self-else-number
invariant_of-self-else-number g c =
    let s = c.self.inside in
    still g.B.Naming.shape s.seat s.client s.reader c.learn.new.self s.held c.self.invariant
    c.in-Ok.ensures.ok.list.mine

pub returns-then-number-clause-ok : goal.returns-then-number-clause-ok
returns-then-number-clause-ok g c =
    let s = c.self.inside in
    let told = c.args.told.now in
    let newest = arc_value c.in_ok-newest.newest in
    let last : IsLast told.list newest =
    subst (IsLast told.list) (sym c.in_ok-newest.ensures) c.value.ensures in
    let more : (arc_value s.held).number < newest.number =
    omega (
      arith,
      c.if-number.true,
      c.number.ensures ∙ ap (λ (x : EpochSet). x.number) c.deref.ensures,
      c.number-2.ensures ∙ ap (λ (x : EpochSet). x.number) c.deref-2.ensures,
    ) in
    subst (λ (a : Passing). ReadsOnly (λ a b. Learns a told b) a
    (passing s.client s.seat.seen (reading c.learn.new.self newest s.pinned.items)))
    c.self.view_is
    (reads_on (λ a b. Learns a told b) s.client s.seat.seen
    (reading s.reader (arc_value s.held) s.pinned.items)
    (reading c.learn.new.self newest s.pinned.items)
    (learns_new g.B.Naming.shape s.seat s.client s.reader c.learn.new.self s.held
    c.self.invariant told newest s.pinned.items c.in-Ok.ensures.ok c.fits.ensures last more))

pub returns-else-number-clause-ok : goal.returns-else-number-clause-ok
returns-else-number-clause-ok g c =
    let s = c.self.inside in
    let told = c.args.told.now in
    let held = arc_value s.held in
    let newest = arc_value c.in_ok-newest.newest in
    let last : IsLast told.list newest =
    subst (IsLast told.list) (sym c.in_ok-newest.ensures) c.value.ensures in
    let less : newest.number ≤ held.number =
    omega (
      arith,
      c.if-number.false,
      c.number.ensures ∙ ap (λ (x : EpochSet). x.number) c.deref.ensures,
      c.number-2.ensures ∙ ap (λ (x : EpochSet). x.number) c.deref-2.ensures,
    ) in
    subst (λ (a : Passing). ReadsOnly (λ a b. Learns a told b) a
    (passing s.client s.seat.seen (reading c.learn.new.self held s.pinned.items)))
    c.self.view_is
    (reads_on (λ a b. Learns a told b) s.client s.seat.seen
    (reading s.reader held s.pinned.items)
    (reading c.learn.new.self held s.pinned.items)
    (learns_old g.B.Naming.shape s.seat s.client s.reader c.learn.new.self s.held
    c.self.invariant told newest s.pinned.items c.in-Ok.ensures.ok c.fits.ensures last less))
