-- One more pass is told.
use Rattle.std.proofs.Common.{◌∙◌, ap, arith, refl, sym, subst}
use Rattle.std.specs.Prelude.{slice_index_or}
use Rattle.tk_lists.proofs.Offers.{changed-none, changed-next}
use Rattle.tk_cluster.specs.Passes.{Passing, Learns, ReadsOnly}
use Rattle.tk_relay.proofs.order.learn_all.Goals as goal

pub loop-pass-init : goal.loop-pass-init
loop-pass-init g c =
    let told = c.args.told.now in
    record {
      told = refl;
      learned = changed-none (ReadsOnly (λ a b. Learns a told b)) c.args.passes.now;
    }

pub learn-requires : goal.learn-requires
learn-requires g c =
    let i = c.loop-pass.pass-index in
    let was = c.loop-pass.invariant.learned.left i c.pass-item.result (omega arith) in
    ap (λ k. k.board) c.loop-pass.invariant.told
    ∙ sym (c.requires i c.pass-item.result c.loop-pass-test.true)
    ∙ ap (λ (a : Passing). a.reads.board) (sym was)

pub loop-pass-preserved : goal.loop-pass-preserved
loop-pass-preserved g c =
    let told = c.args.told.now in
    let i = c.loop-pass.pass-index in
    let a = slice_index_or c.loop-pass.passes i c.pass-item.result in
    let so_far = c.loop-pass.invariant in
    let learns = c.in_ok-learn.ensures in
    record {
      told = learns.told ∙ so_far.told;
      learned =
          changed-next (ReadsOnly (λ a b. Learns a told b)) i c.args.passes.now
          c.loop-pass.passes c.learn.new.pass c.pass-item.result c.loop-pass-test.true
          (subst (λ k. ReadsOnly (λ x y. Learns x k y) a c.learn.new.pass) so_far.told
          learns.ok)
          so_far.learned;
    }

pub returns : goal.returns
returns g c =
    let so_far = c.loop-pass.invariant.learned in
    record {
      counted = so_far.counted;
      each = λ k d low.
          so_far.done k d (omega (arith, c.loop-pass-test.false, low, so_far.counted)) low;
    }
