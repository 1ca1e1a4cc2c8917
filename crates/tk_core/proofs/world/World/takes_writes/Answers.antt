-- An entry that isn't a mark is a write.
use Rattle.std.proofs.Common.{◌≡◌, ◌∙◌, ◌-◌, ◌*◌, ap, ap₂, nat_lt, arith, ℕ, length}
use Rattle.tk_shape.specs.Lengths.{turn_count}
use Rattle.tk_frames.specs.Order.{records}
use Rattle.tk_frames.proofs.Offers.{length-writes_and_marks}
use Rattle.tk_core.specs.World.{WorldView}
use Rattle.tk_core.proofs.world.World.takes_writes.Goals as goal

pub returns : goal.returns
returns c =
    let inside = c.self.inside in
    let shape = inside.shape in
    let all : c.len.result ≡ length inside.order.items = omega arith in
    let marks : c.from.result ≡ inside.marks = omega arith in
    let clients : c.from-2.result ≡ shape.clients = omega arith in
    let turns : c.from-3.result ≡ c.turns.result = omega arith in
    let most : c.from-2.result * c.from-3.result ≡ shape.clients * turn_count shape =
    ap₂ (λ (a b : ℕ). a * b) clients (turns ∙ c.turns.ensures.count)
    in
    let parts = length-writes_and_marks inside.order.items in
    let number = c.self.invariant.1 in
    let writes : c.len.result - c.from.result ≡ length (records inside.order.items) =
    omega (arith, all, marks, parts, number)
    in
    ap₂ (λ (a b : ℕ). nat_lt a b) writes most
    ∙ ap (λ (w : WorldView). nat_lt (length (records w.order))
    (w.shape.clients * turn_count w.shape)) c.self.view_is
