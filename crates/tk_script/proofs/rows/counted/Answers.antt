-- Each line is its item, and there are as many as are wanted.
use Rattle.std.proofs.Common.{◌≡◌, ◌∙◌, ◌∷◌, ◌++◌, [], refl, ap, sym, arith, rules}
use Rattle.tk_script.specs.Reading.{next_lines}
use Rattle.tk_script.specs.Stands.{stands}
use Rattle.tk_script.proofs.AnswerLaws.{refused_as, told_refused}
use Rattle.tk_script.proofs.PlaceLaws.{lines_early, lines_refused, lines_more, lines_done}
use Rattle.tk_script.proofs.rows.counted.Goals as goal

pub returns-in_err-line : goal.returns-in_err-line
returns-in_err-line g c = search (rules, told_refused, lines_early)

pub returns-in-Err : goal.returns-in-Err
returns-in-Err g c =
    let reads = g.K.LineKind.reads c.args.kind.now in
    refused_as c.refused.result c.lines.here.line c.in-Err.cause
    (next_lines c.args.count reads [] (stands c.args.start)) c.refused.ensures
    (c.lines.invariant.said ∙ lines_refused reads c.args.count c.lines.counter
    c.lines.items.items (stands c.lines.here)
    c.in_ok-line.line.now (stands c.in_ok-line.behind) c.in-Err.cause
    (omega (arith, c.lines-test.true))
    (record { number = c.in_ok-line.ensures.number; lines = c.in_ok-line.ensures.line })
    (ap (λ before. reads before c.in_ok-line.line.now) (sym c.as_slice.ensures.value)
    ∙ sym c.in_ok-item.ensures ∙ c.in-Err.is))

pub lines-preserved : goal.lines-preserved
lines-preserved g c =
    let reads = g.K.LineKind.reads c.args.kind.now in
    let pushed : c.push.new.self.items ≡ c.lines.items.items ++ c.in-Ok.item ∷ [] =
    search rules in
    let said = c.lines.invariant.said ∙ lines_more reads c.args.count c.lines.counter
    c.lines.items.items (stands c.lines.here)
    c.in_ok-line.line.now (stands c.in_ok-line.behind) c.in-Ok.item
    (omega (arith, c.lines-test.true))
    (record { number = c.in_ok-line.ensures.number; lines = c.in_ok-line.ensures.line })
    (ap (λ before. reads before c.in_ok-line.line.now) (sym c.as_slice.ensures.value)
    ∙ sym c.in_ok-item.ensures ∙ c.in-Ok.is)
    in
    record { said = rw pushed said }

pub returns : goal.returns
returns g c =
    c.lines.invariant.said ∙ lines_done (g.K.LineKind.reads c.args.kind.now) c.args.count
    c.lines.counter c.lines.items.items (stands c.lines.here)
    (omega (arith, c.lines-test.false, c.lines.auto.counter-end))
    c.lines.items.items refl
