-- One more client's line stands after the others, and at the end all do.
use Rattle.std.proofs.Common.{◌≡◌, ◌∙◌, ◌++◌, ℕ, ap, flat_map, arith}
use Rattle.std.specs.List.{range_with_len}
use Rattle.tk_report.specs.Leaving.{unsent_by}
use Rattle.tk_report.specs.Report.{unsent_line}
use Rattle.tk_report.proofs.ReportLaws.{next_number}
use Rattle.tk_report.proofs.report_text.push_all_unsent.Goals as goal

pub unsent-requires : goal.unsent-requires
unsent-requires g c =
    omega (arith, c.loop-client-test.true, c.args.told.now.sound.clients_counted)

pub loop-client-preserved : goal.loop-client-preserved
loop-client-preserved g c =
    let clients = g.L.Left.clients c.args.told.now.left.now in
    let client = c.loop-client.client in
    let lines = λ (k : ℕ). unsent_line k (unsent_by clients k) in
    next_number lines client c.args.out.now.items
    c.loop-client.invariant c.in_ok-push_unsent.ensures.ok
    (ap (unsent_line client) c.unsent.ensures)

pub returns : goal.returns
returns g c =
    let told = c.args.told.now in
    let clients = g.L.Left.clients told.left.now in
    let lines = λ (k : ℕ). unsent_line k (unsent_by clients k) in
    let end : c.loop-client.client ≡ told.shape.now.clients = omega arith in
    record {
      ok = c.loop-client.invariant
          ∙ ap (λ (n : ℕ). c.args.out.now.items ++ flat_map lines (range_with_len 0 n)) end;
    }
