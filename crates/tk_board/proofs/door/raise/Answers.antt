use Rattle.std.proofs.Common.{fold, ap, ◌∙◌}
use Rattle.std.specs.Arc.{arc_value}
use Rattle.tk_board.proofs.Doors.{turns, again}
use Rattle.tk_board.proofs.door.raise.Goals as goal

pub publish_as-stage-requires : goal.publish_as-stage-requires
publish_as-stage-requires g c next is =
    let s = c.in_ok-stage.stage in
    let clear = c.in_ok-stage.ensures.1 in
    turns (λ x. arc_value x.shown) _ _ s.desk.shown.value next
    (again (arc_value next.shown) (arc_value s.desk.shown.value.shown)
    (is ∙ ap (λ l. fold (λ x o. arc_value o) (arc_value s.desk.shown.value.shown) l) clear))
