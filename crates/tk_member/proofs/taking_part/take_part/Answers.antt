-- The first packet sets no member up, or one that takes part.
use Rattle.std.proofs.Common.{◌≡◌, ◌∙◌, ◌≤◌, ap, subst, rules, inl, inr, length, Err}
use Rattle.std.specs.Prelude.{Option, Some, IfSome}
use Rattle.tk_io.specs.Content.{before_taking}
use Rattle.tk_words.specs.Words.{keyed}
use Rattle.tk_packets.specs.Packets.{PacketView, packet_bytes, spelling}
use Rattle.tk_packets.specs.Lines.{Gone, after_taking}
use Rattle.tk_member.specs.Courses.{most_first, Ends}
use Rattle.tk_member.proofs.UnsetLaws.{unset-refused}
use Rattle.tk_member.proofs.taking_part.take_part.Goals as goal

pub returns-in_err-member-clause-part : goal.returns-in_err-member-clause-part
returns-in_err-member-clause-part g c =
    let left = g.L.Line.left c.args.line.now in
    let rest = g.L.Line.left c.take_packet.new.self in
    let first = c.in-Some.first in
    let e = c.in_err-member.field-0.0 in
    let comes : left ≡ before_taking (packet_bytes first) rest =
    c.in_ok-first.ensures.found
    ∙ ap (λ (o : Option PacketView). before_taking (spelling o) rest) c.in-Some.is
    in
    let gone = g.L.Line.gone c.args.line.now in
    let took : g.L.Line.gone c.take_packet.new.self ≡ after_taking (Some first) gone =
    c.in_ok-first.ensures.took ∙ ap (λ (o : Option PacketView). after_taking o gone) c.in-Some.is
    in
    let few : length first.bytes ≤ most_first =
    subst (λ (o : Option PacketView). IfSome o (λ p. length p.bytes ≤ most_first)) c.in-Some.is
    c.in_ok-first.ensures.within
    in
    let out : c.from_residual-in_err-member.result ≡ Err e = search rules in
    rw out
    (inl (
      unset-refused (Unit {0}) e first left rest comes few c.in_err-member.ensures.refused
          c.in_err-member.ensures.only,
      (Some first, took),
    ))

pub returns-clause-part : goal.returns-clause-part
returns-clause-part g c =
    let rest = g.L.Line.left c.take_packet.new.self in
    let gone = g.L.Line.gone c.args.line.now in
    let took : g.L.Line.gone c.take_packet.new.self ≡ after_taking (Some c.in-Some.first) gone =
    c.in_ok-first.ensures.took ∙ ap (λ (o : Option PacketView). after_taking o gone) c.in-Some.is
    in
    let book = keyed c.in_ok-member.draws.handles.items c.in_ok-member.draws.seeds.items in
    inr (record {
      first = c.in-Some.first;
      words = book;
      member = c.in_ok-member.member;
      sets = c.in_ok-member.ensures.found;
      short =
          subst (λ (o : Option PacketView). IfSome o (λ p. length p.bytes ≤ most_first)) c.in-Some.is
          c.in_ok-first.ensures.within;
      middle = rest;
      comes =
          c.in_ok-first.ensures.found
          ∙ ap (λ (o : Option PacketView). before_taking (spelling o) rest) c.in-Some.is;
      ends =
          subst
          (λ (now : Gone). Ends c.go_on.result book c.in_ok-member.member rest
          (g.L.Line.left c.go_on.new.line) now (g.L.Line.gone c.go_on.new.line))
          took c.go_on.ensures.ends;
    })
