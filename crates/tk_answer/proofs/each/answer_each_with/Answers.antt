use Rattle.tk_answer.proofs.ManySums.{rows_reach}
use Rattle.tk_answer.proofs.each.answer_each_with.Goals as goal

pub sums_of-requires-clause-rows : goal.sums_of-requires-clause-rows
sums_of-requires-clause-rows g c κs within =
    rw c.as_slice.ensures.value (rows_reach _ _ _ c.in_ok-rows.ensures c.requires)
