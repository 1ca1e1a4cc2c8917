-- The lines behind those that are left are set.
use Rattle.std.proofs.Common.{length}
use Rattle.tk_cli.proofs.ChosenLaws.{SetBehind}
use Rattle.tk_cli.proofs.wrong_word.replies_of.Given as goal

abbrev pub invariant-lines : goal.invariant-lines
invariant-lines l = record { set : SetBehind l.shape l.initial.rest l.rest l.replies }

abbrev pub decreases-lines : goal.decreases-lines
decreases-lines l = length l.rest
