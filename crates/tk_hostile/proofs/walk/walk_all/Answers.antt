-- Behind the last turn the whole run was gone through.
use Rattle.std.proofs.Common.{◌≡◌, ℕ, subst, arith}
use Rattle.tk_shape.specs.Lengths.{turn_count}
use Rattle.tk_hostile.specs.Given.{sums_at}
use Rattle.tk_hostile.specs.Walks.{IsWalkBefore}
use Rattle.tk_hostile.proofs.walk.walk_all.Goals as goal

pub turns-init : goal.turns-init
turns-init g c =
    let walk = c.args.walk.now in
    c.in_ok-fold.ensures (g.D.Draws.book walk.plan.now.draws.now) walk.plan.now.history.now
    walk.sides (sums_at walk.replies.now)

pub returns : goal.returns
returns g c =
    let walk = c.args.walk.now in
    let S = walk.plan.now.script.now in
    let all : c.turns.turn ≡ turn_count S.shape = omega arith in
    subst (λ (n : ℕ). IsWalkBefore S (g.D.Draws.book walk.plan.now.draws.now)
    walk.plan.now.history.now walk.sides (sums_at walk.replies.now) n c.turns.fold) all
    c.turns.invariant
