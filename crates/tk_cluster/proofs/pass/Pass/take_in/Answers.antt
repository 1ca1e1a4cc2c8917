-- The list of the note is the longer one.
use Rattle.std.proofs.Common.{◌+◌, refl, subst, sym}
use Rattle.std.specs.Arc.{arc_value}
use mathlib.Core.List.{IsPrefix}
use Rattle.tk_cluster.specs.Passes.{Passing, MeetsAt}
use Rattle.tk_cluster.proofs.Passing.{passing, reading, meets_all, meets_own}
use Rattle.tk_cluster.proofs.pass.Pass.take_in.Goals as goal

pub returns : goal.returns
returns g c =
    let s = c.self.inside in
    let t = c.join.new.seat in
    let e = c.join.ensures in
    let note = c.args.note in
    let more : IsPrefix s.seat.seen note.seen =
    subst (λ (a : Passing). IsPrefix a.seen note.seen) (sym c.self.view_is) c.requires.more in
    subst (λ (a : Passing). MeetsAt note.seen a
    (passing s.client t.seen (reading s.reader (arc_value s.held) s.pinned.items))) c.self.view_is
    (record {
      client = refl;
      reads = refl;
      begins = more;
      seen = meets_all s.seat t note more e;
      own = meets_own s.seat t (s.client + 1) c.self.invariant.number e.number e.own;
    })
