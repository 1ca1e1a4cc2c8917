-- What a search found nothing of, over the same filter and with the same positions, has nothing now.
use Rattle.std.proofs.Common.{◌≡◌, subst, List, length, false, Option}
use Rattle.std.specs.Prelude.{◌==◌}
use Rattle.std.proofs.lemmas.Bool.{ne_eqb}
use Rattle.tk_client.specs.declared.positions.Origin.{Origin}
use Rattle.tk_client.specs.declared.vain_search.VainSearch.{VainSearch}
use Rattle.tk_client.specs.Reader.{Follow, Reader}
use Rattle.tk_client.specs.Vain.{AreOrigins, IsVain, IsVainOrNone}
use Rattle.tk_client.proofs.VainLaws.{target-none}
use Rattle.tk_client.proofs.reader.Reader.is_vain.Goals as goal

pub returns-then-is_over : goal.returns-then-is_over
returns-then-is_over g c same =
    let sight = c.args.sight.now in
    let shape = sight.shape.now in
    let book = g.D.Draws.book sight.draws.now in
    let was = c.self.inside in
    let items = was.follows.items in
    let origins = was.positions.items in
    let r : Reader = record { follows = items; cursor = was.cursor; last = was.last } in
    let kept =
    subst (λ (o : Option VainSearch). IsVainOrNone items origins was.last o) c.in-Some.is
    c.self.invariant.vain_is
    in
    let shows =
    subst (λ (v : VainSearch). IsVain items origins was.last v)
    (c.is_over.ensures.same c.if-is_over.true) kept
    in
    let alike =
    subst (λ (fs : List Follow). AreOrigins shape book fs origins (length fs))
    c.as_slice.ensures.value
    (subst (λ (os : List (Option Origin)). AreOrigins shape book c.as_slice.result.now os
    (length c.as_slice.result.now)) c.as_slice-then-is_over.ensures.value (c.come_from.ensures same))
    in
    let some : (shape.ahead == 0) ≡ false =
    ne_eqb shape.ahead 0 (c.is_over.ensures.ahead c.if-is_over.true)
    in
    rw (← c.self.view_is)
    (target-none shape book sight.filter.now c.args.epoch r origins some c.self.invariant.cursor_in
    alike shows)
