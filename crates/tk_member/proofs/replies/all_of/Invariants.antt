-- Those so far, and behind them all others, if all are there.
use Rattle.std.proofs.Common.{◌≡◌, ◌++◌, drop}
use Rattle.std.specs.Prelude.{option_map}
use Rattle.tk_member.specs.Steps.{all_of}
use Rattle.tk_member.proofs.replies.all_of.Given as goal

abbrev pub invariant-replies : goal.invariant-replies
invariant-replies l =
    option_map (λ ys. l.all.items ++ ys) (all_of (drop l.reply-index l.replies))
    ≡ all_of l.replies
