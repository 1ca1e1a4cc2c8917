-- The next server's frame is spelled after the earlier ones.
use Rattle.tk_frames.specs.Lent.{lent_read}
use Rattle.tk_client.specs.Framing.{query_frame}
use Rattle.tk_client.proofs.AskingLaws.{spelled_more}
use Rattle.tk_client.proofs.query.Query.spelled.Goals as goal

pub loop-server-preserved : goal.loop-server-preserved
loop-server-preserved c =
    spelled_more (query_frame c.args.shape.now c.args.self.now) c.loop-server.spelled.items
    c.push.new.self.items c.loop-server.server (lent_read c.lent.result)
    c.in_ok-spelled_read.field-0 c.loop-server.auto.server c.lent.ensures
    c.in_ok-spelled_read.ensures c.in_ok-push.ensures.items c.loop-server.invariant
