-- The servers so far have replied.
use Rattle.std.proofs.Common.{◌≡◌, ◌-◌, List, map}
use Rattle.std.specs.List.{range_with_len, AllByRecursion}
use Rattle.tk_frames.specs.Order.{Record}
use Rattle.tk_frames.specs.declared.reply_frame.ReplyFrame.{ReplyFrame}
use Rattle.tk_frames.specs.Ranges.{IsReply}
use Rattle.tk_frames.specs.Spelling.{reply_frame}
use Rattle.tk_report.specs.Ledgers.{IsLeftBy}
use Rattle.tk_hostile.specs.Given.{sums_at}
use Rattle.tk_hostile.specs.Choice.{reply_by}
use Rattle.tk_hostile.proofs.wrong_servers.Servers.replies.Given as goal

abbrev pub invariant-loop-server : goal.invariant-loop-server
invariant-loop-server l =
    let given = l.self.replies.now in
    let by : List Record → List ReplyFrame =
    λ R. map (reply_by given.shape l.self.hidden (sums_at given) R l.asked)
    (range_with_len 1 (l.server - 1))
    in
    record {
      replies : (R : List Record) → IsLeftBy given.shape R l.self.left.now →
          l.replies.items ≡ map reply_frame (by R);
      in_range : (R : List Record) → IsLeftBy given.shape R l.self.left.now →
          AllByRecursion (IsReply given.shape) (by R);
    }
