-- A legal history has an epoch for each client in each turn.
use Rattle.std.proofs.Common.{arith}
use Rattle.tk_schedule_tests.proofs.told_tests.epoch_of.Goals as goal

pub epoch-requires-clause-turn_in : goal.epoch-requires-clause-turn_in
epoch-requires-clause-turn_in c = omega (arith, c.requires.legal.turns_counted)

pub epoch-requires-clause-client_in : goal.epoch-requires-clause-client_in
epoch-requires-clause-client_in c =
    let turn = c.requires.legal.each_turn c.args.turn c.requires.turn in
    omega (arith, turn.readers)
