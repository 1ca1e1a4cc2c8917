-- One more turn stands after the others, and at the end all do.
use Rattle.std.proofs.Common.{◌≡◌, ℕ, ◌++◌, ◌∙◌, ap, refl, flat_map, arith}
use Rattle.std.specs.List.{range_with_len}
use Rattle.tk_shape.specs.Lengths.{turn_count}
use Rattle.tk_report.specs.Report.{turn_lines, history_lines}
use Rattle.tk_report.proofs.ReportLaws.{next_number}
use Rattle.tk_report.proofs.history_text.push_history.Goals as goal

pub loop-turn-preserved : goal.loop-turn-preserved
loop-turn-preserved c =
    let lines = turn_lines c.args.shape.now c.args.history.now in
    next_number lines c.loop-turn.turn c.args.out.now.items
    c.loop-turn.invariant c.in_ok-push_turn.ensures.ok refl

pub returns : goal.returns
unfolding history_lines
returns c =
    let old = c.args.out.now.items in
    let lines = turn_lines c.args.shape.now c.args.history.now in
    let end : c.loop-turn.turn ≡ turn_count c.args.shape.now = omega arith in
    record {
      ok = c.loop-turn.invariant ∙ ap (λ (n : ℕ). old ++ flat_map lines (range_with_len 0 n)) end;
    }
