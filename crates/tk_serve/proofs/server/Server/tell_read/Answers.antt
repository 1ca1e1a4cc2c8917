-- The reply comes first, and then the end of the phase.
use Rattle.std.proofs.Common.{◌+◌, ◌∙◌, ◌++◌, ◌∷◌, [], refl, ap, append_assoc}
use Rattle.std.proofs.lemmas.Result.{on_ok_weaker}
use Rattle.tk_packets.specs.Packets.{PacketView, packet}
use Rattle.tk_serve.specs.Seats.{placed, newest}
use Rattle.tk_serve.specs.Told.{reply_told, closing_told}
use Rattle.tk_serve.specs.Steps.{packets_to}
use Rattle.tk_serve.proofs.AnswerLaws.{frame-told}
use Rattle.tk_serve.proofs.server.Server.tell_read.Goals as goal

pub returns : goal.returns
returns c = λ shape seats is.
    let r = c.args.read.now in
    let E = placed shape seats in
    let out = c.args.out.now.items in
    let rest = packets_to r.client (closing_told shape E (newest shape seats) r.turn) in
    let reply =
    c.in_ok-reply.ensures.reply
    ∙ frame-told shape E r.epoch c.epoch.result.now r (c.epoch.ensures.stands shape E is.state_is) refl
    in
    let first = c.in_ok-push.ensures.items
    ∙ ap (λ (p : PacketView). out ++ p ∷ []) (c.new.ensures ∙ ap (packet (r.client + 1)) reply)
    in
    on_ok_weaker c.tell_closing.result
    (λ told. told ∙ ap (λ ps. ps ++ rest) first
    ∙ append_assoc out (packet (r.client + 1) (reply_told shape E r) ∷ []) rest)
    (c.tell_closing.ensures shape seats is)
