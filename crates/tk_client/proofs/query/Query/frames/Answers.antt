-- The frame of the next server comes after the earlier ones.
use Rattle.tk_client.specs.Framing.{query_frame}
use Rattle.tk_client.proofs.AskingLaws.{frames_more}
use Rattle.tk_client.proofs.query.Query.frames.Goals as goal
use Rattle.std.proofs.Common.{◌∙◌}

pub loop-server-preserved : goal.loop-server-preserved
loop-server-preserved c =
    frames_more (query_frame c.args.shape.now c.args.self.now) c.loop-server.frames.items
    c.push.new.self.items c.loop-server.server c.in_ok-to_frame.field-0 c.loop-server.auto.server
    (c.in_ok-to_frame.ensures ∙ c.lent.ensures) c.in_ok-push.ensures.items c.loop-server.invariant
