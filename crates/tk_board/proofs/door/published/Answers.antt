use Rattle.std.proofs.Common.{◌≡◌, fold, sym, ap, ◌∙◌, subst}
use Rattle.std.specs.Arc.{arc_value}
use Rattle.tk_board.specs.Boards.{Before}
use Rattle.tk_board.proofs.Doors.{turns}
use Rattle.tk_board.proofs.door.published.Goals as goal

pub publish_as-next-requires : goal.publish_as-next-requires
publish_as-next-requires g c next is =
    let o = c.requires.0 in
    let now = c.loop.current.desk.shown.value in
    let pending = c.loop.invariant.1 ∙ c.requires.1 in
    let becomes : arc_value next.shown ≡ arc_value o = is ∙ ap
    (λ l. fold (λ x o. arc_value o) (arc_value now.shown) l) pending in
    turns (λ x. arc_value x.shown) _ _ now next
    (subst (λ k. Before k (arc_value now.shown)) (sym becomes)
    (subst (λ n. Before (arc_value o) (arc_value n.shown)) (sym c.loop.invariant.0)
    c.requires.2))
