-- The first reply that names another read is among the others.
use Rattle.std.proofs.Common.{◌≡◌, ◌+◌, drop}
use Rattle.tk_client.specs.Replies.{frames_in, first_other}
use Rattle.tk_client.proofs.replies.check_names.Given as goal

abbrev pub invariant-loop-i : goal.invariant-loop-i
invariant-loop-i l =
    first_other l.client l.read.turn l.read.epoch 1 (frames_in l.shape l.replies)
    ≡ first_other l.client l.read.turn l.read.epoch (l.i + 1) (frames_in l.shape (drop l.i l.replies))
