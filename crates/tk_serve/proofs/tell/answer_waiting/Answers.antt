-- The next read is answered, until none waits or so many are answered.
use Rattle.std.proofs.Common.{◌≡◌, ◌+◌, ◌<◌, ◌≤◌, ◌++◌, ◌∷◌, [], ◌∙◌, ap, sym, rules, drop, map}
use Rattle.tk_packets.specs.Packets.{PacketView, packet}
use Rattle.tk_serve.specs.Desks.{DeskView}
use Rattle.tk_serve.specs.Answering.{packet_over}
use Rattle.tk_serve.proofs.LoopLaws.{answered-all, taken-all, at-front, read-may, desk-next_read, front-of_desk}
use Rattle.tk_serve.proofs.LoopLaws.{more_told}
use Rattle.tk_serve.proofs.tell.answer_waiting.Goals as goal

pub returns-in_default-clause-desk : goal.returns-in_default-clause-desk
returns-in_default-clause-desk c =
    let old = c.args.desk.now in
    let within : c.reads.counter ≤ c.args.ticks = search rules in
    let none : drop c.reads.counter old.asking ≡ [] =
    ap (λ (d : DeskView). d.asking) (sym c.reads.invariant.answered) ∙ c.in_default.ensures.none.0
    in
    c.in_default.ensures.none.1 ∙ c.reads.invariant.answered ∙ answered-all c.reads.counter c.args.ticks old within none

pub returns-in_default-clause-told : goal.returns-in_default-clause-told
returns-in_default-clause-told c =
    let old = c.args.desk.now in
    let within : c.reads.counter ≤ c.args.ticks = search rules in
    let none : drop c.reads.counter old.asking ≡ [] =
    ap (λ (d : DeskView). d.asking) (sym c.reads.invariant.answered) ∙ c.in_default.ensures.none.0
    in
    c.reads.invariant.told
    ∙ ap (λ rs. c.args.out.now.items ++ map (packet_over c.args.epoch.now) rs)
    (taken-all c.reads.counter c.args.ticks old.asking within none)

pub reply-requires : goal.reply-requires
reply-requires c =
    let low : c.reads.counter < c.args.ticks = search rules in
    (read-may c.args.epoch.now c.args.ticks c.reads.counter c.args.desk.now.asking c.in-Some.read
    c.next_read.new.self.asking c.requires low
    (front-of_desk c.reads.counter c.args.desk.now c.reads.desk c.next_read.new.self c.in-Some.read
    c.reads.invariant.answered c.in-Some.ensures.some)).in_range

pub reads-preserved : goal.reads-preserved
reads-preserved c =
    let k = c.reads.counter in
    let old = c.args.desk.now in
    let epoch = c.args.epoch.now in
    let r = c.in-Some.read in
    let front = at-front old.asking k r c.next_read.new.self.asking
    (front-of_desk k old c.reads.desk c.next_read.new.self r c.reads.invariant.answered c.in-Some.ensures.some)
    in
    let made : c.new.result ≡ packet_over epoch r =
    c.new.ensures ∙ ap (packet (r.client + 1)) c.in_ok-reply.ensures.reply
    in
    record {
      answered =
          desk-next_read k old c.reads.desk c.next_read.new.self r c.reads.invariant.answered c.in-Some.ensures.some;
      told =
          c.in_ok-push.ensures.items
          ∙ ap (λ (p : PacketView). c.reads.out.items ++ p ∷ []) made
          ∙ more_told (packet_over epoch) c.args.out.now.items c.reads.out.items old.asking k r front.low
          (front.here r) c.reads.invariant.told;
    }
