-- The head, the epochs and the end are the line.
use Rattle.std.proofs.Common.{ℕ, ◌∷◌, [], codes, decimal}
use Rattle.std.specs.List.{range_with_len}
use Rattle.tk_schedule.specs.Schedule.{phase_of, tick_of, epoch_at}
use Rattle.tk_report.proofs.ReportLaws.{line_of_more}
use Rattle.tk_report.proofs.history_text.push_reads.Goals as goal

pub returns : goal.returns
returns c =
    let shape = c.args.shape.now in
    let turn = c.args.turn in
    let place = decimal (phase_of shape turn) ∷ decimal (tick_of shape turn) ∷ [] in
    let epoch = λ (k : ℕ). decimal (epoch_at c.args.history.now turn k) in
    let clients = range_with_len 0 shape.clients in
    record {
      ok =
          line_of_more epoch (codes "reads") place clients c.args.out.now.items
          c.in_ok-push_head.ensures.ok c.in_ok-push_epochs.ensures.ok c.in_ok-push.ensures.items;
    }
