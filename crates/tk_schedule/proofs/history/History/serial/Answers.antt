-- One more turn of the serial history stands after the others.
use Rattle.std.proofs.Common.{zero-add, rules, sym, subst}
use Rattle.std.proofs.lemmas.List.FromFn.{map-range_with_len_more}
use Rattle.tk_schedule.specs.Schedule.{serial_turn, serial_history, IsLegal}
use Rattle.tk_schedule.proofs.ScheduleLaws.{serial-IsLegal}
use Rattle.tk_schedule.proofs.history.History.serial.Goals as goal

pub loop-turn-preserved : goal.loop-turn-preserved
loop-turn-preserved c =
    let more = map-range_with_len_more (serial_turn c.args.shape.now) 0 c.loop-turn.turn
    c.loop-turn.turn (zero-add c.loop-turn.turn)
    in
    cc (c.in_ok-push.ensures.items, c.in_ok-serial.ensures)

pub returns-clause-serial : goal.returns-clause-serial
unfolding serial_history
returns-clause-serial c = search rules

pub returns-clause-legal : goal.returns-clause-legal
returns-clause-legal c =
    subst (IsLegal c.args.shape.now) (sym (returns-clause-serial c))
    (serial-IsLegal c.args.shape.now)
