-- A displaced write adds one, and another entry nothing.
use Rattle.std.proofs.Common.{◌≡◌, ◌+◌, ◌++◌, ◌∷◌, ◌∙◌, [], ap, arith}
use Rattle.std.specs.Prelude.{Some, None}
use Rattle.tk_table.specs.declared.table.Put.TheVariants.{Placed, Displaced}
use Rattle.tk_report.specs.Displaced.{displaced_in}
use Rattle.tk_report.proofs.OrderCounts.{displaced-told}
use Rattle.tk_report.proofs.count.displaced_with.Goals as goal

pub returns-in-Displaced : goal.returns-in-Displaced
returns-in-Displaced c = λ shape E p before is.
    displaced-told shape E p c.args.before c.args.put (Some Displaced) before is
    (c.in-Some.is ∙ ap Some c.in-Displaced.is)

pub returns-in-Placed : goal.returns-in-Placed
returns-in-Placed c = λ shape E p before is.
    let same : c.args.before + 0 ≡ displaced_in shape (E ++ p ∷ []) =
    displaced-told shape E p c.args.before c.args.put (Some Placed) before is
    (c.in-Some.is ∙ ap Some c.in-Placed.is)
    in
    omega (arith, same)

pub returns-in_default : goal.returns-in_default
returns-in_default c = λ shape E p before is.
    let same : c.args.before + 0 ≡ displaced_in shape (E ++ p ∷ []) =
    displaced-told shape E p c.args.before c.args.put None before is c.in_default.is
    in
    omega (arith, same)
