-- The turns so far stand after what was there.
use Rattle.std.proofs.Common.{◌≡◌, ◌++◌, flat_map}
use Rattle.std.specs.List.{range_with_len}
use Rattle.tk_report.specs.Report.{turn_lines}
use Rattle.tk_report.proofs.history_text.push_history.Given as goal

abbrev pub invariant-loop-turn : goal.invariant-loop-turn
invariant-loop-turn l =
    let lines = turn_lines l.shape l.history in
    l.out.items ≡ l.fn.out.items ++ flat_map lines (range_with_len 0 l.turn)
