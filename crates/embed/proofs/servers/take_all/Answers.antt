-- Each server takes the entry, and no other changes meanwhile.
use Rattle.std.proofs.Common.{arith}
use Rattle.tk_lists.proofs.Offers.{changed-none, changed-next}
use Rattle.embed.proofs.ServerLaws.{Takes, all_take}
use Rattle.embed.proofs.servers.take_all.Goals as goal

pub loop-server-init : goal.loop-server-init
loop-server-init c = changed-none (Takes c.args.frame.now) c.args.servers.now

pub loop-server-preserved : goal.loop-server-preserved
loop-server-preserved c =
    changed-next (Takes c.args.frame.now) c.loop-server.server-index c.args.servers.now
    c.loop-server.servers c.take.new.server c.server-item.result c.loop-server-test.true
    c.in_ok-take.ensures.taken c.loop-server.invariant

pub returns-clause-taken : goal.returns-clause-taken
returns-clause-taken c = λ shape E p are in_range spelled.
    all_take c.args.frame.now c.loop-server.server-index c.args.servers.now c.loop-server.servers
    shape E p (omega (arith, c.loop-server-test.false)) c.loop-server.invariant are in_range spelled
