-- One more pass pins the set.
use Rattle.std.proofs.Common.{ap, arith, sym, subst}
use Rattle.std.specs.Arc.{arc_value}
use Rattle.std.specs.Prelude.{slice_index_or}
use Rattle.tk_lists.proofs.Offers.{changed-none, changed-next}
use Rattle.tk_cluster.specs.Passes.{Passing}
use Rattle.tk_relay.specs.Ordered.{IsPassOf}
use Rattle.tk_relay.proofs.OrderedLaws.{PinsAt, ordered-pinned, pinned-set}
use Rattle.tk_relay.proofs.servers.pin_all.Goals as goal

pub loop-pass-init : goal.loop-pass-init
loop-pass-init g c =
    record {
      pins = changed-none (PinsAt c.args.number) c.args.passes.now;
      set = λ E p have last. tt;
    }

pub pin-requires : goal.pin-requires
pin-requires g c =
    let i = c.loop-pass.pass-index in
    let d = c.pass-item.result in
    let was = c.loop-pass.invariant.pins.left i d (omega arith) in
    let have = c.requires.2 in
    let is = have.each i d c.loop-pass-test.true in
    omega (arith, ap (λ (x : Passing). x.reads.known) was, is.known, c.requires.3)

pub loop-pass-preserved : goal.loop-pass-preserved
loop-pass-preserved g c =
    let i = c.loop-pass.pass-index in
    let d = c.pass-item.result in
    let a = slice_index_or c.loop-pass.passes i d in
    let b = c.pin.new.pass in
    let so_far = c.loop-pass.invariant in
    let set = arc_value c.in_ok-pin.field-0 in
    let pins = c.in_ok-pin.ensures.ok in
    let was = so_far.pins.left i d (omega arith) in
    record {
      pins =
          changed-next (PinsAt c.args.number) i c.args.passes.now c.loop-pass.passes b d
          c.loop-pass-test.true (set, pins) so_far.pins;
      set = λ E p have last.
          pinned-set E p c.args.number i a b set last have.shown
          (subst (IsPassOf E p i) (sym was) (have.each i d c.loop-pass-test.true)) pins;
    }

pub returns-clause-ordered : goal.returns-clause-ordered
returns-clause-ordered g c E p have last =
    let so_far = c.loop-pass.invariant.pins in
    ordered-pinned g.B.Naming.shape E c.args.number c.args.passes.now c.loop-pass.passes p last have
    (record {
      counted = so_far.counted;
      each = λ k d low.
          so_far.done k d (omega (arith, c.loop-pass-test.false, low, so_far.counted)) low;
    })

pub returns-clause-set : goal.returns-clause-set
returns-clause-set g c E p have last =
    rw c.in-Some.is at (c.loop-pass.invariant.set E p have last)
