-- The pads of the servers before this one are taken off.
use Rattle.tk_shape.specs.Lengths.{width}
use Rattle.tk_relay.specs.Parts.{halves_of}
use Rattle.tk_relay.proofs.UnmaskLaws.{Unmasking}
use Rattle.tk_relay.proofs.replies.unmask.Given as goal

abbrev pub invariant-loop-server : goal.invariant-loop-server
invariant-loop-server l =
    Unmasking (width l.pads.shape) (halves_of l.joined) l.pads.pads.replies l.server l.sums
