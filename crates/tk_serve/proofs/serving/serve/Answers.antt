-- The first packet set the server up, and the run went on from there.
use Rattle.std.proofs.Common.{◌≡◌, ℕ, ◌≤◌, ◌∙◌, length, ap, subst, rules, inl, inr, Some}
use Rattle.std.proofs.lemmas.Result.{on_ok_weaker, on_err_weaker}
use Rattle.tk_io.proofs.Offers.{on_err}
use Rattle.tk_io.specs.Content.{Rose, before_taking}
use Rattle.tk_shape.specs.declared.shape.Shape.{Shape}
use Rattle.tk_packets.specs.Packets.{packet_bytes, spelling}
use Rattle.tk_packets.specs.Lines.{Gone, after_taking}
use Rattle.tk_serve.specs.Courses.{Told, after_setup, SetUpThen, RanDone, RanCut, RanLong, RanPeer, RanRead, RanFront}
use Rattle.tk_serve.proofs.FirstLaws.{set-up-then, rose-after}
use Rattle.tk_serve.proofs.NextLaws.{stops-behind}
use Rattle.tk_serve.proofs.serving.serve.Goals as goal

pub returns : goal.returns
returns g c =
    let first = c.in-Ok-Some.first in
    let s = c.in_ok-server.server in
    let left = g.L.Line.left c.args.line.now in
    let middle = g.L.Line.left c.take_packet.new.self in
    let rest = g.L.Line.left c.serve_clients.new.line in
    let gone = g.L.Line.gone c.args.line.now in
    let now = g.L.Line.gone c.take_packet.new.self in
    let new = g.L.Line.gone c.serve_clients.new.line in
    let comes : left ≡ before_taking (packet_bytes first) middle =
    c.in-Ok-Some.ensures.found ∙ ap (λ o. before_taking (spelling o) middle) c.in-Ok-Some.field-0-is
    in
    let took : now ≡ after_taking (Some first) gone =
    c.in-Ok-Some.ensures.took ∙ ap (λ o. after_taking o gone) c.in-Ok-Some.field-0-is
    in
    let then : (Ran : Shape → Told → Gone → Type 0) → Ran s.shape middle now →
    SetUpThen (λ shape m. Ran shape m (after_setup shape gone)) left =
    set-up-then c.in-Some.shape first s left middle gone now c.in-Some.ensures.found comes took c.in_ok-server.ensures
    in
    let ran = c.serve_clients.ensures.ran in
    record {
      served =
          record {
            done =
                on_ok_weaker c.serve_clients.result (λ is. inr (then (λ shape m gn. RanDone shape m rest gn new) is))
                ran.done;
            setup = λ is. absurd (ran.setup is);
            cut = λ is. inr (then (λ shape m gn. RanCut shape m rest gn new) (ran.cut is));
            long = λ is. inr (then (λ shape m gn. RanLong shape m rest gn new) (ran.long is));
            peer = λ is. then (λ shape m gn. RanPeer shape m rest gn new) (ran.peer is);
            whole = λ is. inr (then (λ shape m gn. RanRead shape m rest gn new) (ran.whole is));
          };
      front =
          on_err_weaker c.serve_clients.result (λ is. inr (then (λ shape m gn. RanFront shape m rest gn new) is))
          c.serve_clients.ensures.front;
      read = λ is. rose-after _ _ _ c.take_packet.ensures.counts (c.serve_clients.ensures.read is);
      write = λ is.
          subst (λ (n : ℕ). Rose n (g.L.Line.write_faults c.serve_clients.new.line)) c.take_packet.ensures.writes
          (c.serve_clients.ensures.write is);
    }

pub returns-in_default-clause-front : goal.returns-in_default-clause-front
returns-in_default-clause-front g c =
    let first = c.in-Ok-Some.first in
    let left = g.L.Line.left c.args.line.now in
    let rest = g.L.Line.left c.take_packet.new.self in
    let comes : left ≡ before_taking (packet_bytes first) rest = search rules in
    let short : length first.bytes ≤ 52 = search rules in
    let gone = g.L.Line.gone c.args.line.now in
    let now = g.L.Line.gone c.take_packet.new.self in
    let took : now ≡ after_taking (Some first) gone = search rules in
    inl (stops-behind 52 first left rest gone now comes short took)

pub returns-in_err-server-clause-front : goal.returns-in_err-server-clause-front
returns-in_err-server-clause-front g c =
    let first = c.in-Ok-Some.first in
    let left = g.L.Line.left c.args.line.now in
    let rest = g.L.Line.left c.take_packet.new.self in
    let comes : left ≡ before_taking (packet_bytes first) rest = search rules in
    let short : length first.bytes ≤ 52 = search rules in
    let gone = g.L.Line.gone c.args.line.now in
    let now = g.L.Line.gone c.take_packet.new.self in
    let took : now ≡ after_taking (Some first) gone = search rules in
    on_err _ c.from_residual.result (inl (stops-behind 52 first left rest gone now comes short took))
