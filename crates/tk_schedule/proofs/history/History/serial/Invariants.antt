-- The turns below the counter are those of the serial history.
use Rattle.std.proofs.Common.{◌≡◌, map}
use Rattle.std.specs.List.{range_with_len}
use Rattle.tk_schedule.specs.Schedule.{serial_turn}
use Rattle.tk_schedule.proofs.history.History.serial.Given as goal

abbrev pub invariant-loop-turn : goal.invariant-loop-turn
invariant-loop-turn l = l.turns.items ≡ map (serial_turn l.shape) (range_with_len 0 l.turn)
