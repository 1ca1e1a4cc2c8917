-- What the server saw of one more read.
use Rattle.std.proofs.Common.{◌∙◌}
use Rattle.tk_relay.specs.Reads.{read_seen}
use Rattle.tk_relay.proofs.Places.{seen-next}
use Rattle.tk_relay.proofs.frames_seen.sight_of.Goals as goal

pub loop-read-preserved : goal.loop-read-preserved
loop-read-preserved c =
    seen-next (read_seen c.args.server) c.args.reads.now c.loop-read.read-index c.read-item.result
    c.loop-read.bytes.items c.see.new.out.items c.loop-read-test.true c.read-item.is
    c.in_ok-see.ensures
    ∙ c.loop-read.invariant
