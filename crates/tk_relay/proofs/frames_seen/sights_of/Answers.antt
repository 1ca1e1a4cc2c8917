-- What one more server saw.
use Rattle.tk_relay.specs.Reads.{sight_seen}
use Rattle.tk_relay.proofs.Places.{made-next}
use Rattle.tk_relay.proofs.frames_seen.sights_of.Goals as goal

pub loop-server-preserved : goal.loop-server-preserved
loop-server-preserved c =
    made-next (sight_seen c.args.entries.now c.args.reads.now) c.loop-server.server
    c.loop-server.sights.items c.push.new.self.items c.in_ok-sight_of.field-0
    c.loop-server.auto.server c.in_ok-sight_of.ensures c.in_ok-push.ensures.items
    c.loop-server.invariant
