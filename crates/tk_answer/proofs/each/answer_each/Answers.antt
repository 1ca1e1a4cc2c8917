use Rattle.tk_answer.proofs.ManySums.{rows_reach}
use Rattle.tk_answer.proofs.each.answer_each.Goals as goal

pub answer_rows-requires-clause-rows : goal.answer_rows-requires-clause-rows
answer_rows-requires-clause-rows g c =
    rw c.as_slice.ensures.value (λ _ _. rows_reach _ _ _ c.in_ok-rows.ensures c.requires)
