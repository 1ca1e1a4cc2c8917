-- A turn of a legal history has no client out of range.
use Rattle.std.proofs.Common.{◌≡◌, ◌∙◌, ap, arith}
use Rattle.std.proofs.lemmas.Grind.{common_steps}
use Rattle.std.specs.List.{list_all}
use Rattle.tk_schedule.specs.Schedule.{is_within, order_at}
use Rattle.tk_schedule.proofs.ScheduleLaws.{turn_within}
use Rattle.tk_schedule.proofs.history.History.order.Goals as goal

pub returns-clause-clients_in : goal.returns-clause-clients_in
returns-clause-clients_in c shape turn_in legal =
    let order : c.as_slice.result.now ≡ order_at c.args.self.now c.args.turn =
    grind (arith, common_steps)
    in
    ap (list_all (is_within shape.clients)) order
    ∙ turn_within shape c.args.turn _ (legal.each_turn c.args.turn turn_in)
