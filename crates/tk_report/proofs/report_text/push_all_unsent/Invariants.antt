-- The lines of the clients so far stand after what was there.
use Rattle.std.proofs.Common.{◌≡◌, ℕ, ◌++◌, flat_map}
use Rattle.std.specs.List.{range_with_len}
use Rattle.tk_report.specs.Leaving.{unsent_by}
use Rattle.tk_report.specs.Report.{unsent_line}
use Rattle.tk_report.proofs.report_text.push_all_unsent.Given as goal

abbrev pub invariant-loop-client : goal.invariant-loop-client
invariant-loop-client g l =
    let clients = g.L.Left.clients l.told.left.now in
    let lines = λ (k : ℕ). unsent_line k (unsent_by clients k) in
    l.out.items ≡ l.fn.out.items ++ flat_map lines (range_with_len 0 l.client)
