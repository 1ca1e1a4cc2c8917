-- What the logs so far gave stands after what was there.
use Rattle.std.proofs.Common.{◌≡◌, ◌++◌, ℕ, flat_map}
use Rattle.std.specs.List.{range_with_len}
use Rattle.tk_report.specs.Leaving.{got_by}
use Rattle.tk_report.specs.Report.{log_lines, role_in}
use Rattle.tk_report.proofs.log_text.push_logs.Given as goal

abbrev pub invariant-loop-log : goal.invariant-loop-log
invariant-loop-log g l =
    let clients = g.L.Left.clients l.told.left.now in
    let lines_of = λ (log : ℕ) (k : ℕ). log_lines log k (got_by clients k log) in
    let of_log = λ (log : ℕ). flat_map (lines_of log) (role_in l.told.roles.now log).followers in
    l.out.items ≡ l.fn.out.items ++ flat_map of_log (range_with_len 0 l.log)
