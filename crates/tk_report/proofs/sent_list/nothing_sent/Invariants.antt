-- The lists so far are empty.
use Rattle.std.proofs.Common.{◌≡◌, [], replicate}
use Rattle.tk_report.proofs.sent_list.nothing_sent.Given as goal

abbrev pub invariant-loop-made : goal.invariant-loop-made
invariant-loop-made l = l.all.items ≡ replicate l._made []
