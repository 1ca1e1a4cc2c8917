-- The client at the place takes the replies to its read.
use Rattle.std.proofs.Common.{◌∙◌, ◌<◌, ◌≤◌, refl, sym, subst, arith, length, length-set}
use Rattle.tk_report.proofs.Offers.{split-none, split-next, split-all}
use Rattle.tk_relay.specs.Running.{IsRelayed}
use Rattle.tk_relay.proofs.Paddings.{padding-at}
use Rattle.tk_relay.proofs.taken_replies.take_all.Goals as goal

pub taking-init : goal.taking-init
taking-init g c =
    record {
      counted = refl;
      clients = split-none c.requires.clients.each;
    }

pub take_one-requires-clause-number_in : goal.take_one-requires-clause-number_in
take_one-requires-clause-number_in g c κs met =
    omega (
      arith,
      c.taking-test.true,
      c.taking.invariant.counted,
      c.requires.clients.counted,
    )

pub bounds-pads-i : goal.bounds-pads-i
bounds-pads-i g c =
    omega (
      arith,
      c.taking-test.true,
      c.taking.invariant.counted,
      c.requires.clients.counted,
      c.requires.counted,
    )

pub take_one-requires-clause-read : goal.take_one-requires-clause-read
take_one-requires-clause-read g c κs met =
    let S = c.args.plan.now.script.now in
    let book = g.D.Draws.book c.args.plan.now.draws.now in
    let H = c.args.plan.now.history.now in
    let i = c.taking.i in
    let seeds = c.requires.reads.0 in
    let are = c.requires.reads.2 in
    let low : i < S.shape.clients =
    omega (arith, c.taking-test.true, c.taking.invariant.counted, c.requires.clients.counted)
    in (
      seeds,
      c.index-pads-i.is
          ∙ padding-at S.shape seeds c.args.turn c.args.pads.now c.requires.reads.1 i
          c.index-pads-i.result (omega (arith, low, c.requires.counted)),
      subst (IsRelayed S book seeds H c.args.turn S.shape.servers i) (sym c.index-reads-i.is)
          (are.each i c.index-reads-i.result (omega (arith, low, are.counted))),
    )

pub take_one-requires-clause-client : goal.take_one-requires-clause-client
take_one-requires-clause-client g c κs met =
    let so_far = c.taking.invariant in
    so_far.clients.due_are c.taking.i c.index-clients-i.result (omega arith)
    (omega (arith, c.taking-test.true, so_far.counted))

pub taking-preserved : goal.taking-preserved
taking-preserved g c =
    let i = c.taking.i in
    let clients = c.taking.clients in
    let so_far = c.taking.invariant in
    let within : i < length clients = omega (arith, c.taking-test.true, so_far.counted) in
    record {
      counted = length-set clients i c.take_one.new.client ∙ so_far.counted;
      clients = split-next c.take_one.new.client so_far.clients within c.in_ok-take_one.ensures;
    }

pub returns : goal.returns
returns g c =
    let so_far = c.taking.invariant in
    let ended : length c.taking.clients ≤ c.taking.i =
    omega (arith, c.taking-test.false, so_far.counted)
    in
    record {
      counted = so_far.counted ∙ c.requires.clients.counted;
      each = split-all so_far.clients ended;
    }
