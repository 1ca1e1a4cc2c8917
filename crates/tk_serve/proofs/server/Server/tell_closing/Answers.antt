-- The epoch after the one that is read is told at the end of its phase.
use Rattle.std.proofs.Common.{◌≡◌, ◌+◌, ◌∙◌, ◌++◌, ◌∷◌, [], ap, sym, arith, append-nil, true}
use Rattle.tk_shape.specs.declared.shape.Shape.{Shape}
use Rattle.tk_schedule.specs.Schedule.{is_closing}
use Rattle.tk_packets.specs.Packets.{PacketView, packet}
use Rattle.tk_packets.specs.Frames.{epoch_frame}
use Rattle.tk_serve.specs.Seats.{placed}
use Rattle.tk_serve.specs.Steps.{packets_to}
use Rattle.tk_serve.specs.Answering.{epoch_of}
use Rattle.tk_serve.proofs.AnswerLaws.{epoch-told}
use Rattle.tk_serve.proofs.TellLaws.{tells-closing, tells-no_more}
use Rattle.tk_serve.proofs.server.Server.tell_closing.Goals as goal

pub returns-then-phase-last : goal.returns-then-phase-last
returns-then-phase-last c = λ shape seats is.
    let last = c.last.ensures in
    let none = tells-no_more shape seats c.args.self.now is c.args.read.now c.requires.due (omega (arith, last)) in
    sym (ap (λ frames. c.args.out.now.items ++ packets_to c.args.read.now.client frames) none
    ∙ append-nil c.args.out.now.items)

pub returns : goal.returns
returns c = λ shape seats is.
    let s = c.args.self.now in
    let r = c.args.read.now in
    let E = placed shape seats in
    let epoch = c.epoch.result.now in
    let last = c.last.ensures in
    let closes : is_closing s.shape r.turn ≡ true = cc in
    let closing = tells-closing shape seats s is r c.requires.due closes (omega (arith, last)) in
    let bytes =
    c.in_ok-frame.ensures.bytes ∙ ap (λ (sh : Shape). epoch_frame (epoch_of sh epoch)) is.same
    ∙ epoch-told shape E (r.epoch + 1) epoch (c.epoch.ensures.stands shape E is.state_is)
    in
    c.in_ok-push.ensures.items
    ∙ ap (λ (p : PacketView). c.args.out.now.items ++ p ∷ []) (c.new.ensures ∙ ap (packet (r.client + 1)) bytes)
    ∙ ap (λ frames. c.args.out.now.items ++ packets_to r.client frames) (sym closing)
