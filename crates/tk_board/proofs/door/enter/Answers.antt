use Rattle.std.proofs.Common.{◌∙◌, sym, ap, subst}
use Rattle.std.specs.Arc.{arc_value}
use Rattle.left_right.specs.Sides.{view}
use Rattle.tk_board.specs.Boards.{Tied}
use Rattle.tk_board.proofs.Doors.{enters, tied_on, tied_to, ok_some}
use Rattle.tk_board.proofs.door.enter.Goals as goal

pub enter_as-requires : goal.enter_as-requires
enter_as-requires g c x = enters (λ x. arc_value x.shown) _ _ x

pub returns-in-Ok-clause-door : goal.returns-in-Ok-clause-door
returns-in-Ok-clause-door g c =
    let z = c.args.tally.now in
    let r = c.in-Ok.reading in
    subst (Tied z) (sym c.leave.ensures.1)
    (tied_on z (view c.args.door.place) (view r.place) (arc_value r.part.value.shown) c.requires
    (c.in-Ok.ensures).1)

pub returns-in-Ok-clause-shown : goal.returns-in-Ok-clause-shown
returns-in-Ok-clause-shown g c =
    let z = c.args.tally.now in
    let r = c.in-Ok.reading in
    let of_board = tied_to z (view c.args.door.place) (view r.place) (arc_value r.part.value.shown)
    c.requires (c.in-Ok.ensures).1 in
    ok_some _ _ c.further-got.result
    (λ s h. (
      ap (λ k. k.board) (h.0 ∙ ap (λ n. arc_value n.shown) c.get.ensures) ∙ of_board,
      h.1,
    )) c.further-got.ensures
