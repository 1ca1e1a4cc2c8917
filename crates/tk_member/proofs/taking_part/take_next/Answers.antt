-- How it ends at the next packet.
use Rattle.std.proofs.Common.{◌≡◌, ◌≤◌, ◌∙◌, ap, sym, subst, rules, List, Err, length}
use Rattle.std.specs.Prelude.{Option, Some, IfSome}
use Rattle.tk_io.specs.Content.{before_taking}
use Rattle.tk_words.specs.Words.{keyed}
use Rattle.tk_packets.specs.Packets.{PacketView, packet_bytes, spelling}
use Rattle.tk_packets.specs.Lines.{after_taking, HasPutFront}
use Rattle.tk_member.specs.declared.fault.Fault.TheVariants.{Read, Write}
use Rattle.tk_member.specs.Courses.{Told, most_later, EndsFor}
use Rattle.tk_member.specs.Faults.{fault_of_packet, fault_of_put}
use Rattle.tk_member.proofs.EndLaws.{ends-untaken, ends-taken, ends-unput, never-reads, never-writes, same-fault}
use Rattle.tk_member.proofs.taking_part.take_next.Goals as goal

pub returns-in_err-packet-clause-next : goal.returns-in_err-packet-clause-next
returns-in_err-packet-clause-next g c =
    let b = keyed c.args.draws.now.handles.items c.args.draws.now.seeds.items in
    let e = c.in_err-packet.field-0.0 in
    let out : c.from_residual.result ≡ Err (fault_of_packet e) = search rules in
    rw out
    (ends-untaken e b c.args.member.now (g.L.Line.left c.args.line.now)
    (g.L.Line.left c.take_packet.new.self) (g.L.Line.gone c.args.line.now)
    (g.L.Line.gone c.take_packet.new.self) c.requires.goes_on c.in_err-packet.ensures.none
    c.in_err-packet.ensures.err
    (λ is. c.in_err-packet.ensures.cut (ap Err is)) (λ is. c.in_err-packet.ensures.long (ap Err is)))

pub returns-in_err-sent-clause-next : goal.returns-in_err-sent-clause-next
returns-in_err-sent-clause-next g c =
    let b = keyed c.args.draws.now.handles.items c.args.draws.now.seeds.items in
    let left = g.L.Line.left c.args.line.now in
    let rest = g.L.Line.left c.take_packet.new.self in
    let gone = g.L.Line.gone c.args.line.now in
    let now = g.L.Line.gone c.take_packet.new.self in
    let e = c.in_err-sent.field-0.0 in
    let p = c.in-Some.packet in
    let comes : left ≡ before_taking (packet_bytes p) rest =
    c.in_ok-packet.ensures.found
    ∙ ap (λ (o : Option PacketView). before_taking (spelling o) rest) c.in-Some.is
    in
    let took : now ≡ after_taking (Some p) gone =
    c.in_ok-packet.ensures.took ∙ ap (λ (o : Option PacketView). after_taking o gone) c.in-Some.is
    in
    let short : length p.bytes ≤ most_later =
    subst (λ (o : Option PacketView). IfSome o (λ q. length q.bytes ≤ most_later)) c.in-Some.is
    c.in_ok-packet.ensures.within
    in
    let out : c.from_residual-in_err-sent.result ≡ Err e = search rules in
    rw out
    (ends-taken e b c.args.member.now p left rest gone now c.requires.goes_on comes
    short c.in_err-sent.ensures.ended took)

pub returns-in_err-sent-clause-read : goal.returns-in_err-sent-clause-read
returns-in_err-sent-clause-read g c = λ is.
    let b = keyed c.args.draws.now.handles.items c.args.draws.now.seeds.items in
    let e = c.in_err-sent.field-0.0 in
    let r = c.from_residual-in_err-sent.result in
    let out : r ≡ Err e = search rules in
    absurd
    (never-reads e b c.args.member.now c.in-Some.packet c.in_err-sent.ensures.ended
    (same-fault r e Read out is))

pub returns-in_err-sent-clause-write : goal.returns-in_err-sent-clause-write
returns-in_err-sent-clause-write g c = λ is.
    let b = keyed c.args.draws.now.handles.items c.args.draws.now.seeds.items in
    let e = c.in_err-sent.field-0.0 in
    let r = c.from_residual-in_err-sent.result in
    let out : r ≡ Err e = search rules in
    absurd
    (never-writes e b c.args.member.now c.in-Some.packet c.in_err-sent.ensures.ended
    (same-fault r e Write out is))

pub returns-in_err-put_packets-clause-next : goal.returns-in_err-put_packets-clause-next
returns-in_err-put_packets-clause-next g c =
    let b = keyed c.args.draws.now.handles.items c.args.draws.now.seeds.items in
    let left = g.L.Line.left c.args.line.now in
    let middle = g.L.Line.left c.take_packet.new.self in
    let gone = g.L.Line.gone c.args.line.now in
    let now = g.L.Line.gone c.take_packet.new.self in
    let new = g.L.Line.gone c.put_packets.new.self in
    let e = c.in_err-put_packets.field-0.0 in
    let p = c.in-Some.packet in
    let sent = c.in_ok-sent.sent.items in
    let comes : left ≡ before_taking (packet_bytes p) middle =
    c.in_ok-packet.ensures.found
    ∙ ap (λ (o : Option PacketView). before_taking (spelling o) middle) c.in-Some.is
    in
    let took : now ≡ after_taking (Some p) gone =
    c.in_ok-packet.ensures.took ∙ ap (λ (o : Option PacketView). after_taking o gone) c.in-Some.is
    in
    let short : length p.bytes ≤ most_later =
    subst (λ (o : Option PacketView). IfSome o (λ q. length q.bytes ≤ most_later)) c.in-Some.is
    c.in_ok-packet.ensures.within
    in
    let front : HasPutFront sent now new =
    subst (λ (ps : List PacketView). HasPutFront ps now new) c.as_slice.ensures.value
    c.in_err-put_packets.ensures.err
    in
    let out : c.from_residual-in_err-put_packets.result ≡ Err (fault_of_put e) = search rules in
    let ends =
    ends-unput e b c.args.member.now c.take.new.self p sent left middle gone now new c.requires.goes_on
    comes short c.in_ok-sent.ensures.sent took front
    in
    rw out
    (subst (λ (rest : Told). EndsFor (fault_of_put e) b c.args.member.now left rest gone new)
    (sym c.put_packets.ensures.same) ends)
