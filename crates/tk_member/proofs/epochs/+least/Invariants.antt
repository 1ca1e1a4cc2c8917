-- The numbers get fewer.
use Rattle.std.proofs.Common.{length}
use Rattle.tk_member.proofs.epochs.+least.Given as goal

abbrev pub decreases-least : goal.decreases-least
decreases-least l = length l.numbers.now
