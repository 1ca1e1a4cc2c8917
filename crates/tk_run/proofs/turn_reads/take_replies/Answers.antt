-- The client at the place takes the replies to its read.
use Rattle.std.proofs.Common.{◌∙◌, ◌<◌, ◌≤◌, refl, arith, length, length-set}
use Rattle.tk_report.proofs.Offers.{split-none, split-next, split-all}
use Rattle.tk_run.proofs.turn_reads.take_replies.Goals as goal

pub taking-init : goal.taking-init
taking-init g c =
    record {
      counted = refl;
      clients = split-none c.requires.clients.each;
      under = λ V Es tells orders rows are. split-none are.each;
    }

pub take_one-requires-clause-client_in : goal.take_one-requires-clause-client_in
take_one-requires-clause-client_in g c κs met =
    omega (
      arith,
      c.taking-test.true,
      c.taking.invariant.counted,
      c.requires.clients.counted,
    )

pub take_one-requires-clause-client : goal.take_one-requires-clause-client
take_one-requires-clause-client g c κs met =
    let so_far = c.taking.invariant in
    so_far.clients.due_are c.taking.i c.index-clients-i.result (omega arith)
    (omega (arith, c.taking-test.true, so_far.counted))

pub taking-preserved : goal.taking-preserved
taking-preserved g c =
    let i = c.taking.i in
    let clients = c.taking.clients in
    let so_far = c.taking.invariant in
    let within : i < length clients = omega (arith, c.taking-test.true, so_far.counted) in
    let place : i < length c.args.replies.now =
    omega (arith, within, so_far.counted, c.requires.clients.counted, c.requires.replies)
    in
    record {
      counted = length-set clients i c.take_one.new.client ∙ so_far.counted;
      clients = split-next c.take_one.new.client so_far.clients within c.in_ok-take_one.ensures.client;
      under = λ V Es tells orders rows are.
          let split = so_far.under V Es tells orders rows are in
          split-next c.take_one.new.client split within
          (c.in_ok-take_one.ensures.client_under V Es tells orders
          (c.as_slice.ensures ∙ c.index-replies-i.is ∙ rows.each i c.index-replies-i.result place)
          (split.due_are i c.index-clients-i.result (omega arith) within));
    }

pub returns-clause-clients : goal.returns-clause-clients
returns-clause-clients g c =
    let so_far = c.taking.invariant in
    let ended : length c.taking.clients ≤ c.taking.i =
    omega (arith, c.taking-test.false, so_far.counted)
    in
    record {
      counted = so_far.counted ∙ c.requires.clients.counted;
      each = split-all so_far.clients ended;
    }

pub returns-clause-clients_under : goal.returns-clause-clients_under
returns-clause-clients_under g c V Es tells orders rows are =
    let so_far = c.taking.invariant in
    let ended : length c.taking.clients ≤ c.taking.i =
    omega (arith, c.taking-test.false, so_far.counted)
    in
    record {
      counted = so_far.counted ∙ c.requires.clients.counted;
      each = split-all (so_far.under V Es tells orders rows are) ended;
    }
