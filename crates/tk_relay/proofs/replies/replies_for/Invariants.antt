-- The first server's frame, and frames with zeros so far.
use Rattle.std.proofs.Common.{◌≡◌, ◌-◌, ◌∷◌, replicate}
use Rattle.tk_shape.specs.Lengths.{width}
use Rattle.tk_frames.specs.Spelling.{reply_frame}
use Rattle.tk_relay.specs.Replies.{reply_with, unmasked, zero_halves}
use Rattle.tk_relay.proofs.replies.replies_for.Given as goal

abbrev pub invariant-loop : goal.invariant-loop
invariant-loop l =
    l.replies.items
    ≡ reply_frame (reply_with l.joined (unmasked l.shape l.pads.pads l.joined))
    ∷ replicate (l.counter - 1) (reply_frame (reply_with l.joined (zero_halves (width l.shape))))
