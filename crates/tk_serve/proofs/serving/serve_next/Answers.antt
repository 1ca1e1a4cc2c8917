-- A packet of a client is taken, and what goes out for it, or a front of it, is put.
use Rattle.std.proofs.Common.{◌≡◌, ◌≤◌, ◌-◌, ◌∙◌, ◌++◌, length, ap, sym, subst, rules, inl, inr, Some}
use Rattle.tk_io.specs.Content.{before_taking}
use Rattle.tk_packets.specs.Packets.{packet_bytes}
use Rattle.tk_packets.specs.Lines.{after_taking}
use Rattle.tk_serve.specs.Setup.{longest_frame}
use Rattle.tk_serve.specs.Steps.{step}
use Rattle.tk_serve.specs.Courses.{Told}
use Rattle.tk_serve.specs.Nexts.{TakesNext, TakesNextFront}
use Rattle.tk_serve.proofs.NextLaws.{IsTakenOf, takes-next, takes-front, no_err-holds, stops-behind}
use Rattle.tk_serve.proofs.serving.serve_next.Goals as goal

pub returns-in-Ok-clause-next : goal.returns-in-Ok-clause-next
returns-in-Ok-clause-next g c = λ seats stands _.
    let shape = c.args.server.now.shape in
    let p = c.in-Ok-Some.packet in
    let client = c.peer-peer.result - 1 in
    let frame = c.bytes.result.now in
    let none = sym c.is_err.ensures.value ∙ c.if-is_err.false in
    let came : IsTakenOf shape p client frame (g.L.Line.left c.args.line.now)
    (g.L.Line.left c.take_packet.new.self) (g.L.Line.gone c.args.line.now) (g.L.Line.gone c.take_packet.new.self) =
    record {
      low = search rules;
      high = search rules;
      short = search rules;
      taken = search rules;
      client_is = ap (λ n. n - 1) c.peer-peer.ensures;
      frame_is = c.bytes.ensures;
      took = search rules;
    }
    in
    let told = no_err-holds c.take.result none (c.take.ensures.told shape seats stands) in
    subst (λ (rest : Told).
    TakesNext shape seats c.take.new.self (g.L.Line.left c.args.line.now) rest (g.L.Line.gone c.args.line.now)
    (g.L.Line.gone c.put_packets.new.self))
    (sym c.put_packets.ensures.same)
    (takes-next shape seats p client frame _ _ _ _ _ came c.as_slice.result.now
    (c.as_slice.ensures.value ∙ told ∙ ap (λ ps. ps ++ (step shape seats client frame).packets) c.new-out.ensures.items)
    c.take.new.self (no_err-holds c.take.result none (c.take.ensures.stands shape seats stands))
    c.in-Ok.ensures.ok)

pub returns-clause-front : goal.returns-clause-front
returns-clause-front g c = λ seats stands.
    let shape = c.args.server.now.shape in
    let p = c.in-Ok-Some.packet in
    let client = c.peer-peer.result - 1 in
    let frame = c.bytes.result.now in
    let none = sym c.is_err.ensures.value ∙ c.if-is_err.false in
    let came : IsTakenOf shape p client frame (g.L.Line.left c.args.line.now)
    (g.L.Line.left c.take_packet.new.self) (g.L.Line.gone c.args.line.now) (g.L.Line.gone c.take_packet.new.self) =
    record {
      low = search rules;
      high = search rules;
      short = search rules;
      taken = search rules;
      client_is = ap (λ n. n - 1) c.peer-peer.ensures;
      frame_is = c.bytes.ensures;
      took = search rules;
    }
    in
    let told = no_err-holds c.take.result none (c.take.ensures.told shape seats stands) in
    inr (subst (λ (rest : Told).
    TakesNextFront shape seats (g.L.Line.left c.args.line.now) rest (g.L.Line.gone c.args.line.now)
    (g.L.Line.gone c.put_packets.new.self))
    (sym c.put_packets.ensures.same)
    (takes-front shape seats p client frame _ _ _ _ _ came c.as_slice.result.now
    (c.as_slice.ensures.value ∙ told ∙ ap (λ ps. ps ++ (step shape seats client frame).packets) c.new-out.ensures.items)
    c.in-Err-put_packets.ensures.err))

pub returns-then-peer-lt1-clause-front : goal.returns-then-peer-lt1-clause-front
returns-then-peer-lt1-clause-front g c = λ seats stands.
    let p = c.in-Ok-Some.packet in
    let most = longest_frame c.args.server.now.shape in
    let left = g.L.Line.left c.args.line.now in
    let rest = g.L.Line.left c.take_packet.new.self in
    let comes : left ≡ before_taking (packet_bytes p) rest = search rules in
    let short : length p.bytes ≤ most = search rules in
    let gone = g.L.Line.gone c.args.line.now in
    let now = g.L.Line.gone c.take_packet.new.self in
    let took : now ≡ after_taking (Some p) gone = search rules in
    inl (stops-behind most p left rest gone now comes short took)

pub returns-then-is_err-clause-front : goal.returns-then-is_err-clause-front
returns-then-is_err-clause-front g c = λ seats stands.
    let p = c.in-Ok-Some.packet in
    let most = longest_frame c.args.server.now.shape in
    let left = g.L.Line.left c.args.line.now in
    let rest = g.L.Line.left c.take_packet.new.self in
    let comes : left ≡ before_taking (packet_bytes p) rest = search rules in
    let short : length p.bytes ≤ most = search rules in
    let gone = g.L.Line.gone c.args.line.now in
    let now = g.L.Line.gone c.take_packet.new.self in
    let took : now ≡ after_taking (Some p) gone = search rules in
    inl (stops-behind most p left rest gone now comes short took)
