use Rattle.std.proofs.Common.{◌∙◌, false, arith}
use Rattle.std.proofs.lemmas.List.{take-replicate}
use Rattle.tk_checkpoint.proofs.slots.check_slots.Goals as goal

pub check_each-requires-clause-none_found : goal.check_each-requires-clause-none_found
check_each-requires-clause-none_found c =
    c.split_at_mut-found.ensures.front ∙ take-replicate c.args.count 131072 false (omega (arith, c.split_at_mut-found.ensures.front_len))
