use Rattle.std.proofs.Common.{◌-◌, ◌<◌, ◌≤◌, ℕ, get_or}
use Rattle.tk_checkpoint.specs.Reading.{positions_from}
use Rattle.tk_checkpoint.proofs.finding.place_of.Given as goal

abbrev pub invariant-loop-low : goal.invariant-loop-low
invariant-loop-low l =
    record {
      order : l.low ≤ l.high;
      within : l.high ≤ l.count;
      before : (i : ℕ) → i < l.low → get_or (positions_from l.shape.hits l.count l.window) i 0 < l.position;
      behind : (i : ℕ) → l.high ≤ i → i < l.count → l.position < get_or (positions_from l.shape.hits l.count l.window) i 0;
    }

abbrev pub decreases-loop-low : goal.decreases-loop-low
decreases-loop-low l = l.high - l.low
