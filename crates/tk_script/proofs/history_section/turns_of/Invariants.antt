-- What is read so far is read of the lines before this one, and each line takes some of the text.
use Rattle.std.proofs.Common.{length}
use Rattle.tk_script.specs.Stands.{stands}
use Rattle.tk_script.proofs.TurnsSoFar.{TurnsSoFar}
use Rattle.tk_script.proofs.history_section.turns_of.Given as goal

abbrev pub invariant-turns : goal.invariant-turns
invariant-turns l = record {
  so_far : TurnsSoFar (stands l.start) (stands l.here) l.lines.items;
}

abbrev pub decreases-turns : goal.decreases-turns
decreases-turns l = length l.here.rest.now
