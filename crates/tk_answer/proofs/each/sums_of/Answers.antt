use Rattle.std.proofs.Common.{◌∙◌, ◌<◌, length, sym, arith}
use Rattle.std.proofs.lemmas.Bool.{eqb-false}
use Rattle.tk_answer.proofs.ManySums.{eights_of_rows}
use Rattle.tk_answer.proofs.each.sums_of.Goals as goal

pub summed-requires-clause-eights : goal.summed-requires-clause-eights
summed-requires-clause-eights g c =
    let unlike = eqb-false _ _ (sym c.is_empty.ensures ∙ c.if-is_empty.false) in
    let some : 0 < length c.args.rows.now = omega (arith, unlike) in
    let eights = eights_of_rows (length (g.B.Blocks.blocks c.args.blocks.now)) c.args.rows.now some c.requires.rows in
    omega (arith, eights)
