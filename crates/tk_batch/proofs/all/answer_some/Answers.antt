-- The chunks are those of the vectors' rows.
use Rattle.std.proofs.Common.{◌∙◌, ℕ, Vec, Global, ap, map}
use Rattle.tk_kernel.specs.Chosen.{chosen_sum}
use Rattle.tk_answer.proofs.Offers.{rows_reach}
use Rattle.tk_batch.proofs.Joining.{joined-all}
use Rattle.tk_batch.proofs.all.answer_some.Goals as goal

pub answer_chunks-requires-clause-rows : goal.answer_chunks-requires-clause-rows
answer_chunks-requires-clause-rows g c =
    rw c.as_slice.ensures.value
    (λ _ _. rows_reach _ _ _ c.in_ok-rows.ensures c.requires.vectors)

pub returns : goal.returns
returns g c =
    let B = g.B.Blocks in
    let rows = c.as_slice.result.now in
    joined-all (chosen_sum (B.width c.args.blocks.now) (B.blocks c.args.blocks.now))
    c.div_ceil-size.result rows c.args.vectors.items c.in_ok-parts.parts.items c.joined.result
    c.in_ok-parts.ensures
    (ap (map (λ (row : Vec ℕ Global). row.items)) c.as_slice.ensures.value ∙ c.in_ok-rows.ensures)
    c.joined.ensures
