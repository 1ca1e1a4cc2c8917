-- The turns so far have the first lines, and the bad line is left to those after them.
use Rattle.std.proofs.Common.{◌≡◌, ℕ, ◌-◌, ◌<◌, ◌++◌, length, get_or, IsTrue}
use Rattle.tk_shape.specs.Lengths.{turn_count}
use Rattle.tk_schedule.specs.Due.{first_bad, bad_line}
use Rattle.tk_schedule.specs.Raw.{ends_once, kinds}
use Rattle.tk_schedule.specs.Schedule.{IsTurn, blank_turn}
use Rattle.tk_schedule.specs.Told.{lines_from}
use Rattle.tk_schedule.proofs.LineLaws.{due_from}
use Rattle.tk_schedule.proofs.told.turns_in.Given as goal

abbrev pub invariant-turns : goal.invariant-turns
invariant-turns l = record {
  counted : length l.turns.items ≡ l.turn;
  legal : (k : ℕ) → k < l.turn → IsTurn l.shape k (get_or l.turns.items k blank_turn);
  told : kinds l.raw ≡ lines_from l.shape 0 l.turns.items ++ kinds l.lines;
  ends : IsTrue (ends_once l.lines);
  bad : bad_line l.shape l.raw
      ≡ first_bad l.shape (due_from l.shape l.turn (turn_count l.shape - l.turn)) l.lines;
}
