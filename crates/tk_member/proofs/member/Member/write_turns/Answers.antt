-- One turn more is written.
use Rattle.std.proofs.Common.{◌∙◌, ◌+◌, ◌-◌, ◌++◌, ap, sym, arith, List}
use Rattle.tk_shape.specs.declared.shape.Shape.{Shape}
use Rattle.tk_words.specs.Words.{words_of}
use Rattle.tk_packets.specs.Packets.{PacketView}
use Rattle.tk_member.specs.Members.{MemberState}
use Rattle.tk_member.specs.Acting.{behind, wrote, write_packets}
use Rattle.tk_member.proofs.ActingLaws.{wrote-next, wrote-none}
use Rattle.tk_member.proofs.member.Member.write_turns.Goals as goal

pub turns-preserved : goal.turns-preserved
turns-preserved g c =
    let book = g.D.Draws.book c.args.draws.now in
    let words = words_of c.args.self.now.client.shape book in
    let so_far = c.turns.invariant in
    let now = c.in_ok-write_turn.ensures in
    let m = c.turns.self in
    let out = c.turns.sent.items in
    let left = c.args.count - (c.turns.turn + 1) in
    let packets = now.packets
    ∙ ap (λ (s : Shape). out ++ write_packets (words_of s book) m) so_far.same
    in
    record {
      same = now.same ∙ so_far.same;
      written = ap (λ (n : MemberState). n.written) now.wrote ∙ omega (arith, so_far.written);
      sent =
          ap (λ (ps : List PacketView). behind ps (wrote words left c.write_turn.new.self)) packets
          ∙ ap (λ (n : MemberState). behind (out ++ write_packets words m) (wrote words left n)) now.wrote
          ∙ sym (wrote-next words out c.args.count c.turns.turn m c.turns-test.true)
          ∙ so_far.sent;
    }

pub returns-clause-wrote : goal.returns-clause-wrote
returns-clause-wrote g c =
    let words = words_of c.args.self.now.client.shape (g.D.Draws.book c.args.draws.now) in
    sym c.turns.invariant.sent
    ∙ wrote-none words c.turns.sent.items c.args.count c.turns.turn c.turns.self (omega arith)
