-- It writes as far as it may, and then it may have to ask.
use Rattle.std.proofs.Common.{◌∙◌, ap, sym, Vec, Global}
use Rattle.tk_packets.specs.Packets.{PacketView}
use Rattle.tk_member.proofs.ActingLaws.{acts-writes, acts-asks, acts-none, turned-is}
use Rattle.tk_member.proofs.member.Member.act.Goals as goal
use Rattle.tk_member.proofs.member.Member.act.Goals.{then-may_ask+in_ok-ask, else-may_ask}

pub returns-clause-acts : goal.returns-clause-acts
returns-clause-acts g c =
    let b = g.D.Draws.book c.args.draws.now in
    let one = c.write_ahead.new.self in
    let two = c.write_by_ticks.new.self in
    let ticked = c.write_by_ticks.new.sent.items in
    let wrote = acts-writes b c.args.told.items c.write_ahead.new.sent.items ticked c.args.self.now one two
    c.in_ok-write_ahead.ensures.same c.in_ok-write_ahead.ensures.wrote
    c.in_ok-write_by_ticks.ensures.wrote
    in
    let items = λ (v : Vec PacketView Global). v.items in
    let after = c.if-may_ask.self in
    let sent = c.if-may_ask.sent.items in
    elim c.if-may_ask.branch [
      | then-may_ask+in_ok-ask w ↦
          wrote
          ∙ acts-asks b ticked two (sym c.may_ask.ensures ∙ w.if-may_ask.true)
          ∙ w.in_ok-ask.ensures.asked
          ∙ turned-is w.ask.new.self after w.ask.new.sent.items sent w.self-is (ap items w.sent-is)
      | else-may_ask w ↦
          wrote
          ∙ acts-none b ticked two (sym c.may_ask.ensures ∙ w.if-may_ask.false)
          ∙ turned-is two after ticked sent w.self-is (ap items w.sent-is)
    ]
