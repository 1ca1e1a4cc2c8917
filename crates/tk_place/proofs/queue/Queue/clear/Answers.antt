use Rattle.std.proofs.Common.{◌+◌, ◌<◌, ◌≤◌, arith, vec_len}
use Rattle.std.specs.Prelude.{◌==◌}
use Rattle.std.proofs.lemmas.List.{length-map}
use Rattle.std.proofs.lemmas.List.Elements.{All-weaker}
use Rattle.tk_place.proofs.Stamps.{queue_begun, zeros_below}
use Rattle.tk_place.proofs.queue.Queue.clear.Goals as goal

pub invariant_of-self : goal.invariant_of-self
invariant_of-self c =
    let line = c.self.invariant.line in
    let few = c.self.invariant.few in
    let long = line.marks in
    let room = line.room in
    let same = length-map c.self.inside.stamps.items (λ s. s == c.self.inside.stamp) in
    let before = c.self.inside.stamps.ok.0 in
    let after = c.fill.new.self.ok.0 in
    let len = c.fill.ensures.len in
    queue_begun _ _ _ _ (omega (arith, few, len)) (omega (arith, room, len)) (omega (arith, after))
    (zeros_below _ (vec_len c.self.inside.stamps) 1 (c.fill.ensures.items (λ y same. same))
    (omega arith))

pub invariant_of-self-2 : goal.invariant_of-self-2
invariant_of-self-2 c =
    queue_begun _ _ _ _ c.self.invariant.few c.self.invariant.line.room
    (omega (arith, c.self.inside.stamps.ok.0))
    (All-weaker (λ s. s ≤ c.self.inside.stamp) (λ s. s < c.self.inside.stamp + 1)
    (λ s low. omega (arith, low)) c.self.inside.stamps.items c.self.invariant.past)
