-- There is a reply to each frame so far.
use Rattle.std.proofs.Common.{◌≡◌, List, length, map, take}
use Rattle.tk_shape.specs.declared.shape.Shape.{Shape}
use Rattle.tk_frames.specs.declared.entry.Placed.{Placed}
use Rattle.tk_replica.specs.Replies.{reply_bytes}
use Rattle.embed.specs.Servers.{AllStandFor}
use Rattle.embed.proofs.servers.answers.Given as goal

abbrev pub invariant-loop-i : goal.invariant-loop-i
invariant-loop-i l =
    record {
      counted : length l.replies.items ≡ l.i;
      replies : (shape : Shape) (E : List Placed) → AllStandFor shape E l.servers →
          l.replies.items ≡ map (reply_bytes shape E) (take l.i l.frames);
    }
