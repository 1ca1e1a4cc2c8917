-- Packets are taken until the run is over, nothing is left, or a fault comes.
use Rattle.std.proofs.Common.{◌≡◌, ◌∙◌, sym, refl, subst, arith, rules, Bool, Ok, Err}
use Rattle.tk_words.specs.Words.{keyed}
use Rattle.tk_member.specs.Courses.{TakesNext, TookOne, TookNone}
use Rattle.tk_member.proofs.CourseLaws.{taken-none, taken-next, ends-over, ends-full, ends-empty, ends-later}
use Rattle.tk_member.proofs.taking_part.go_on.Goals as goal

pub packets-init : goal.packets-init
packets-init g c =
    let b = keyed c.args.draws.now.handles.items c.args.draws.now.seeds.items in
    record {
      same = refl;
      reads_count = omega arith;
      writes_count = omega arith;
      so_far =
          taken-none b c.args.member.now (g.L.Line.left c.args.line.now)
          (g.L.Line.gone c.args.line.now);
    }

pub packets-preserved : goal.packets-preserved
packets-preserved g c =
    let b = keyed c.args.draws.now.handles.items c.args.draws.now.seeds.items in
    let k = c.packets.member in
    let n = c.take_next.new.member in
    let middle = g.L.Line.left c.packets.line in
    let rest = g.L.Line.left c.take_next.new.line in
    let h = g.L.Line.gone c.packets.line in
    let new = g.L.Line.gone c.take_next.new.line in
    let one : TookOne b k n middle rest h new =
    subst (λ (more : Bool). TakesNext (Ok more) b k n middle rest h new) c.if-not-more.false
    c.in_ok-more.ensures.next
    in
    record {
      same = c.take_next.ensures.same ∙ c.packets.invariant.same;
      reads_count = omega (arith, c.packets.invariant.reads_count, c.take_next.ensures.reads_count);
      writes_count = omega (arith, c.packets.invariant.writes_count, c.take_next.ensures.writes_count);
      so_far =
          taken-next c.packets.taken b c.args.member.now k n (g.L.Line.left c.args.line.now)
          middle rest (g.L.Line.gone c.args.line.now) h new c.packets.invariant.so_far
          (sym c.is_over.ensures ∙ c.if-is_over.false) one;
    }

pub returns-then-is_over-clause-ends : goal.returns-then-is_over-clause-ends
returns-then-is_over-clause-ends g c =
    let b = keyed c.args.draws.now.handles.items c.args.draws.now.seeds.items in
    ends-over c.packets.taken b c.args.member.now c.packets.member
    (g.L.Line.left c.args.line.now) (g.L.Line.left c.packets.line)
    (g.L.Line.gone c.args.line.now) (g.L.Line.gone c.packets.line) c.packets.invariant.so_far
    (sym c.is_over.ensures ∙ c.if-is_over.true)

pub returns-in_err-more-clause-ends : goal.returns-in_err-more-clause-ends
returns-in_err-more-clause-ends g c =
    let b = keyed c.args.draws.now.handles.items c.args.draws.now.seeds.items in
    let e = c.in_err-more.field-0.0 in
    let out : c.from_residual.result ≡ Err e = search rules in
    rw out
    (ends-later e c.packets.taken b c.args.member.now c.packets.member
    (g.L.Line.left c.args.line.now) (g.L.Line.left c.packets.line)
    (g.L.Line.left c.take_next.new.line) (g.L.Line.gone c.args.line.now)
    (g.L.Line.gone c.packets.line) (g.L.Line.gone c.take_next.new.line)
    c.packets.invariant.so_far c.in_err-more.ensures.next)

pub returns-then-not-more-clause-ends : goal.returns-then-not-more-clause-ends
returns-then-not-more-clause-ends g c =
    let b = keyed c.args.draws.now.handles.items c.args.draws.now.seeds.items in
    let k = c.packets.member in
    let n = c.take_next.new.member in
    let middle = g.L.Line.left c.packets.line in
    let rest = g.L.Line.left c.take_next.new.line in
    let h = g.L.Line.gone c.packets.line in
    let new = g.L.Line.gone c.take_next.new.line in
    let none : TookNone k n middle rest h new =
    subst (λ (more : Bool). TakesNext (Ok more) b k n middle rest h new) c.if-not-more.true
    c.in_ok-more.ensures.next
    in
    ends-empty c.packets.taken b c.args.member.now k n (g.L.Line.left c.args.line.now) middle rest
    (g.L.Line.gone c.args.line.now) h new c.packets.invariant.so_far none

pub returns-clause-ends : goal.returns-clause-ends
returns-clause-ends g c =
    let b = keyed c.args.draws.now.handles.items c.args.draws.now.seeds.items in
    ends-full c.packets.taken b c.args.member.now c.packets.member
    (g.L.Line.left c.args.line.now) (g.L.Line.left c.packets.line)
    (g.L.Line.gone c.args.line.now) (g.L.Line.gone c.packets.line) c.packets.invariant.so_far
    (omega (arith, c.packets-test.false))
