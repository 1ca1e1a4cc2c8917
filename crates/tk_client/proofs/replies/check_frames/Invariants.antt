-- The replies so far are whole, and the first that can't be read is among the others.
use Rattle.std.proofs.Common.{◌≡◌, ◌+◌, take, drop}
use Rattle.tk_client.specs.Replies.{first_unread, AreWholeReplies}
use Rattle.tk_client.proofs.replies.check_frames.Given as goal

abbrev pub invariant-loop-i : goal.invariant-loop-i
invariant-loop-i l =
    record {
      whole : AreWholeReplies l.shape (take l.i l.replies);
      left : first_unread l.shape 1 l.replies
          ≡ first_unread l.shape (l.i + 1) (drop l.i l.replies);
    }
