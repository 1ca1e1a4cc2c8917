-- What is read so far is read of the lines before this one, and each line takes some of the text.
use Rattle.std.proofs.Common.{length}
use Rattle.tk_script.specs.Stands.{stands}
use Rattle.tk_script.proofs.TapeSoFar.{TapeSoFar}
use Rattle.tk_script.proofs.tape.pieces_of.Given as goal

abbrev pub invariant-pieces : goal.invariant-pieces
invariant-pieces l = record {
  so_far : TapeSoFar l.want (stands l.start) (stands l.here) l.kept.items l.got;
}

abbrev pub decreases-pieces : goal.decreases-pieces
decreases-pieces l = length l.here.rest.now
