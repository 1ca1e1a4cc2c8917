-- The sums of the replies so far.
use Rattle.std.proofs.Common.{◌≡◌, map, take}
use Rattle.tk_shape.specs.Lengths.{width}
use Rattle.tk_kernel.specs.Xor.{xor_all}
use Rattle.tk_frames.specs.Fields.{reply_in}
use Rattle.tk_client.proofs.join.join.Given as goal

abbrev pub invariant-loop-reply : goal.invariant-loop-reply
invariant-loop-reply l =
    let replies = take l.reply-index l.replies in
    record {
      first : l.first ≡ xor_all (width l.shape) (map (λ b. (reply_in l.shape b).first) replies);
      second : l.second ≡ xor_all (width l.shape) (map (λ b. (reply_in l.shape b).second) replies);
    }
