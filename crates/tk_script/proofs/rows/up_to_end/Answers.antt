-- Each line is its item, up to the one that ends them.
use Rattle.std.proofs.Common.{◌≡◌, ◌∙◌, ◌∷◌, ◌++◌, [], codes, refl, ap, sym, rules}
use Rattle.tk_script.specs.Stands.{stands}
use Rattle.tk_script.proofs.AnswerLaws.{refused_as, told_refused}
use Rattle.tk_script.proofs.PlaceLaws.{end_early, end_here, end_refused, end_more}
use Rattle.tk_script.proofs.rows.up_to_end.Goals as goal

pub returns-in_err-line : goal.returns-in_err-line
returns-in_err-line g c = search (rules, told_refused, end_early)

pub returns-then-is_end : goal.returns-then-is_end
returns-then-is_end g c =
    let end : c.in_ok-line.line.now ≡ codes "end" = search rules in
    c.lines.invariant.said
    ∙ end_here (g.K.LineKind.reads c.args.kind.now) c.lines.items.items (stands c.lines.here)
    c.in_ok-line.line.now (stands c.in_ok-line.behind)
    (record { number = c.in_ok-line.ensures.number; lines = c.in_ok-line.ensures.line }) end
    c.lines.items.items refl

pub returns-in-Err : goal.returns-in-Err
returns-in-Err g c = search (rules, refused_as, end_refused)

pub lines-preserved : goal.lines-preserved
lines-preserved g c =
    let pushed : c.push.new.self.items ≡ c.lines.items.items ++ c.in-Ok.item ∷ [] =
    search rules in
    let other : c.in_ok-line.line.now ≡ codes "end" → ⊥ = search rules in
    let reads = g.K.LineKind.reads c.args.kind.now in
    let said = c.lines.invariant.said
    ∙ end_more reads c.lines.items.items
    (stands c.lines.here) c.in_ok-line.line.now (stands c.in_ok-line.behind) c.in-Ok.item
    (record { number = c.in_ok-line.ensures.number; lines = c.in_ok-line.ensures.line }) other
    (ap (λ before. reads before c.in_ok-line.line.now) (sym c.as_slice.ensures.value)
    ∙ sym c.in_ok-item.ensures ∙ c.in-Ok.is)
    in
    record { said = rw pushed said }
