-- One more server replies.
use Rattle.std.proofs.Common.{◌≡◌, ◌∙◌, ◌+◌, ◌-◌, ap, sym, subst, refl, arith}
use Rattle.tk_shape.specs.declared.shape.Shape.{Shape}
use Rattle.tk_frames.specs.Order.{before}
use Rattle.tk_table.specs.Table.{layout, blocks_of}
use Rattle.tk_relay.specs.Reads.{AreServed}
use Rattle.tk_relay.proofs.AnsweredReads.{served-none, all-next}
use Rattle.tk_relay.proofs.serve_all.serve_all.Goals as goal

pub loop-server-init : goal.loop-server-init
loop-server-init c =
    record {
      counted = refl;
      whole = c.requires.whole;
      served = λ shape E stands.
          served-none shape (blocks_of (layout shape (before E c.args.set.now.number)))
          c.args.pads.now c.args.reads.now;
    }

pub loop-server-preserved : goal.loop-server-preserved
loop-server-preserved c =
    let server = c.loop-server.server in
    let so_far = c.loop-server.invariant in
    let before_it : server - 1 + 1 ≡ server = omega (arith, c.loop-server.auto.server) in
    let with_it : server - 1 + 1 ≡ server + 1 - 1 = omega (arith, c.loop-server.auto.server) in
    let old = c.args.reads.now in
    let mid = c.loop-server.reads in
    let new = c.serve.new.reads in
    let pads = c.args.pads.now in
    record {
      counted = c.serve.auto.reads ∙ so_far.counted;
      whole = c.in_ok-serve.ensures.whole;
      served = λ shape E stands.
          let blocks = blocks_of (layout shape (before E c.args.set.now.number)) in
          subst (λ n. AreServed shape blocks pads 1 n old new) with_it
          (all-next shape blocks pads (server - 1) old mid new (so_far.served shape E stands)
          (subst (λ n. AreServed shape blocks pads n 1 mid new) (sym before_it)
          (c.in_ok-serve.ensures.served shape E stands)));
    }

pub returns : goal.returns
returns c = λ shape E stands.
    let blocks = blocks_of (layout shape (before E c.args.set.now.number)) in
    let same : shape.servers ≡ c.args.set.now.shape.servers = ap (λ (s : Shape). s.servers) (sym stands.same) in
    let all : c.loop-server.server - 1 ≡ shape.servers =
    omega (arith, c.loop-server-test.false, c.loop-server.auto.server, same, c.servers-server-end.ensures)
    in
    subst (λ n. AreServed shape blocks c.args.pads.now 1 n c.args.reads.now c.loop-server.reads) all
    (c.loop-server.invariant.served shape E stands)
