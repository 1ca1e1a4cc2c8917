-- The logs so far that pass.
use Rattle.std.proofs.Common.{◌≡◌, filter}
use Rattle.std.specs.List.{range_with_len}
use Rattle.tk_report.specs.Report.{is_follower}
use Rattle.tk_report.proofs.opened.logs_followed.Given as goal

abbrev pub invariant-loop-log : goal.invariant-loop-log
invariant-loop-log l =
    l.logs.items ≡ filter (is_follower l.script l.client) (range_with_len 0 l.log)
