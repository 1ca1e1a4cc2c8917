-- What one more log gave stands after the others, and at the end all do.
use Rattle.std.proofs.Common.{◌≡◌, ℕ, ◌++◌, ◌∙◌, ap, refl, flat_map, arith}
use Rattle.std.specs.List.{range_with_len}
use Rattle.tk_report.specs.Leaving.{got_by}
use Rattle.tk_report.specs.Report.{log_lines, role_in}
use Rattle.tk_report.proofs.ReportLaws.{next_number}
use Rattle.tk_report.proofs.log_text.push_logs.Goals as goal

pub loop-log-preserved : goal.loop-log-preserved
loop-log-preserved g c =
    let told = c.args.told.now in
    let clients = g.L.Left.clients told.left.now in
    let lines_of = λ (log : ℕ) (k : ℕ). log_lines log k (got_by clients k log) in
    let of_log = λ (log : ℕ). flat_map (lines_of log) (role_in told.roles.now log).followers in
    next_number of_log c.loop-log.log c.args.out.now.items
    c.loop-log.invariant c.in_ok-push_followers.ensures.ok refl

pub returns : goal.returns
returns g c =
    let told = c.args.told.now in
    let clients = g.L.Left.clients told.left.now in
    let old = c.args.out.now.items in
    let lines_of = λ (log : ℕ) (k : ℕ). log_lines log k (got_by clients k log) in
    let of_log = λ (log : ℕ). flat_map (lines_of log) (role_in told.roles.now log).followers in
    let end : c.loop-log.log ≡ told.shape.now.logs = omega arith in
    record {
      ok = c.loop-log.invariant ∙ ap (λ (n : ℕ). old ++ flat_map of_log (range_with_len 0 n)) end;
    }
