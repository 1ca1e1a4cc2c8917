-- What the log gave to the followers so far stands after what was there.
use Rattle.std.proofs.Common.{◌≡◌, ℕ, ◌++◌, flat_map, take}
use Rattle.tk_report.specs.Leaving.{got_by}
use Rattle.tk_report.specs.Report.{log_lines}
use Rattle.tk_report.proofs.log_text.push_followers.Given as goal

abbrev pub invariant-loop-client : goal.invariant-loop-client
invariant-loop-client g l =
    let clients = g.L.Left.clients l.told.left.now in
    let lines = λ (k : ℕ). log_lines l.log k (got_by clients k l.log) in
    l.out.items ≡ l.fn.out.items ++ flat_map lines (take l.client-index l.followers)
