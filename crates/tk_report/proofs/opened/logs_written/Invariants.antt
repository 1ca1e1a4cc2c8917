-- The logs so far that pass.
use Rattle.std.proofs.Common.{◌≡◌, filter}
use Rattle.std.specs.Prelude.{◌==◌}
use Rattle.std.specs.List.{range_with_len}
use Rattle.tk_script.specs.Sent.{writer_of}
use Rattle.tk_report.proofs.opened.logs_written.Given as goal

abbrev pub invariant-loop-log : goal.invariant-loop-log
invariant-loop-log l =
    l.logs.items ≡ filter (λ log. writer_of l.script log == l.client) (range_with_len 0 l.log)
