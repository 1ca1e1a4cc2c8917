-- One more packet is taken where the run isn't over.
use Rattle.std.proofs.Common.{◌+◌, ◌⊎◌, ◌∙◌, refl, sym, subst, arith}
use Rattle.std.specs.Prelude.{Err}
use Rattle.tk_serve.specs.Seats.{empty_seats}
use Rattle.tk_serve.specs.Steps.{seats_after}
use Rattle.tk_serve.specs.Stands.{HasApplied}
use Rattle.tk_serve.specs.Setup.{longest_frame}
use Rattle.tk_serve.specs.Courses.{IsGoing, StopsBehind}
use Rattle.tk_serve.specs.Nexts.{HasNext, TakesNext, TakesNextFront}
use Rattle.tk_serve.proofs.CourseLaws.{running-first, running-next}
use Rattle.tk_serve.proofs.EndLaws.{tested-not, ran-front, ran-ends}
use Rattle.tk_serve.proofs.serving.serve_clients.Goals as goal

pub packets-init : goal.packets-init
packets-init g c = record {
  same = refl;
  runs =
      running-first c.args.server.now.shape c.args.server.now (g.L.Line.left c.args.line.now)
      (g.L.Line.gone c.args.line.now) c.requires;
  reads = omega arith;
  puts = omega arith;
}

pub returns-in-Err-clause-ran : goal.returns-in-Err-clause-ran
returns-in-Err-clause-ran g c =
    let inv = c.packets.invariant in
    let shape = c.args.server.now.shape in
    let seats = seats_after shape (empty_seats shape) inv.runs.frames in
    let going : IsGoing shape inv.runs.frames =
    tested-not c.is_over.result (c.is_over.ensures shape seats inv.runs.stands) c.if-is_over.false
    in
    let middle = g.L.Line.left c.packets.line in
    let rest = g.L.Line.left c.serve_next.new.line in
    let now = g.L.Line.gone c.packets.line in
    let new = g.L.Line.gone c.serve_next.new.line in
    let next = subst (λ sh. HasNext (Err c.in-Err.fault) sh middle rest now new) inv.same c.in-Err.ensures.ends in
    ran-ends shape c.packets.counter c.packets.server (g.L.Line.left c.args.line.now) middle
    (g.L.Line.gone c.args.line.now) now inv.runs c.in-Err.fault rest new going next

pub returns-in-Err-clause-front : goal.returns-in-Err-clause-front
returns-in-Err-clause-front g c =
    let inv = c.packets.invariant in
    let shape = c.args.server.now.shape in
    let s = c.packets.server in
    let seats = seats_after shape (empty_seats shape) inv.runs.frames in
    let going : IsGoing shape inv.runs.frames =
    tested-not c.is_over.result (c.is_over.ensures shape seats inv.runs.stands) c.if-is_over.false
    in
    let own = subst (λ sh. HasApplied sh seats s) (sym inv.same) inv.runs.stands in
    let middle = g.L.Line.left c.packets.line in
    let rest = g.L.Line.left c.serve_next.new.line in
    let now = g.L.Line.gone c.packets.line in
    let new = g.L.Line.gone c.serve_next.new.line in
    let front = subst (λ sh. StopsBehind (8 + longest_frame sh) middle rest now new
    ⊎ TakesNextFront sh seats middle rest now new) inv.same (c.in-Err.ensures.front seats own)
    in
    ran-front shape c.packets.counter s (g.L.Line.left c.args.line.now) middle (g.L.Line.gone c.args.line.now) now
    inv.runs rest new going front

pub packets-preserved : goal.packets-preserved
packets-preserved g c =
    let inv = c.packets.invariant in
    let shape = c.args.server.now.shape in
    let s = c.packets.server in
    let seats = seats_after shape (empty_seats shape) inv.runs.frames in
    let going : IsGoing shape inv.runs.frames =
    tested-not c.is_over.result (c.is_over.ensures shape seats inv.runs.stands) c.if-is_over.false
    in
    let own = subst (λ sh. HasApplied sh seats s) (sym inv.same) inv.runs.stands in
    let middle = g.L.Line.left c.packets.line in
    let rest = g.L.Line.left c.serve_next.new.line in
    let now = g.L.Line.gone c.packets.line in
    let new = g.L.Line.gone c.serve_next.new.line in
    let next = subst (λ sh. TakesNext sh seats c.serve_next.new.server middle rest now new) inv.same
    (c.serve_next.ensures.next seats own (cc))
    in
    record {
      same = c.serve_next.ensures.shape ∙ inv.same;
      runs =
          running-next shape c.packets.counter s c.serve_next.new.server (g.L.Line.left c.args.line.now) middle rest
          (g.L.Line.gone c.args.line.now) now new inv.runs going next;
      reads = omega (arith, inv.reads, c.serve_next.ensures.reads_count);
      puts = omega (arith, inv.puts, c.serve_next.ensures.writes_count);
    }
