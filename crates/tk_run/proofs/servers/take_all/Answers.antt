-- Each server takes the entry, and no other changes meanwhile.
use Rattle.std.proofs.Common.{arith}
use Rattle.tk_lists.proofs.Offers.{changed-none, changed-next}
use Rattle.tk_run.proofs.TakingLaws.{Takes, all_take, all_hold, one_may_take}
use Rattle.tk_run.proofs.servers.take_all.Goals as goal

pub loop-server-init : goal.loop-server-init
loop-server-init c = changed-none (Takes c.args.placed.now) c.args.servers.now

pub take-requires : goal.take-requires
take-requires c =
    one_may_take (Takes c.args.placed.now) c.args.placed.now c.loop-server.server-index
    c.args.servers.now c.loop-server.servers c.server-item.result c.requires c.loop-server-test.true
    c.loop-server.invariant

pub loop-server-preserved : goal.loop-server-preserved
loop-server-preserved c =
    changed-next (Takes c.args.placed.now) c.loop-server.server-index c.args.servers.now
    c.loop-server.servers c.take.new.self c.server-item.result c.loop-server-test.true
    (record { ready = c.in_ok-take.ensures.ready; server = c.in_ok-take.ensures.server })
    c.loop-server.invariant

pub returns-clause-ready : goal.returns-clause-ready
returns-clause-ready c shape E are next =
    all_take c.args.placed.now c.loop-server.server-index c.args.servers.now c.loop-server.servers
    shape E (omega (arith, c.loop-server-test.false)) c.loop-server.invariant are next

pub returns-clause-servers : goal.returns-clause-servers
returns-clause-servers c shape Es seen are =
    all_hold c.args.placed.now c.loop-server.server-index c.args.servers.now c.loop-server.servers
    shape Es seen (omega (arith, c.loop-server-test.false)) c.loop-server.invariant are
