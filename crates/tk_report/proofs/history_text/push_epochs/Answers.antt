-- One more epoch stands after the others.
use Rattle.std.proofs.Common.{ℕ, ◌∷◌, ◌∙◌, ap, decimal}
use Rattle.tk_schedule.specs.Schedule.{epoch_at}
use Rattle.tk_report.proofs.ReportLaws.{next_number}
use Rattle.tk_report.proofs.history_text.push_epochs.Goals as goal

pub loop-client-preserved : goal.loop-client-preserved
loop-client-preserved c =
    let field = λ (k : ℕ). 0x20 ∷ decimal (epoch_at c.args.history.now c.args.turn k) in
    let here = ap (λ n. 0x20 ∷ decimal n) (c.from.ensures ∙ c.epoch.ensures) in
    next_number field c.loop-client.client c.args.out.now.items
    c.loop-client.invariant c.in_ok-push_field.ensures.ok here
