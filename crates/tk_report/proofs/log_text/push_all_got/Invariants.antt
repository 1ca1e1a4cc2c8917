-- What is written and what is left are the whole.
use Rattle.std.proofs.Common.{◌≡◌, ◌++◌, drop}
use Rattle.tk_report.specs.Report.{got_lines}
use Rattle.tk_report.proofs.log_text.push_all_got.Given as goal

abbrev pub invariant-loop-number : goal.invariant-loop-number
invariant-loop-number l =
    l.out.items ++ got_lines l.number (drop l.number l.all) ≡ l.fn.out.items ++ got_lines 0 l.all
