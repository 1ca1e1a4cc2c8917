-- The halves put together are the whole.
use Rattle.std.proofs.Common.{◌≡◌, ◌++◌, sym, subst, rules, true}
use Rattle.std.proofs.lemmas.Bool.{and_parts}
use Rattle.tk_run.specs.Ticks.{Done}
use Rattle.tk_run.proofs.Joins.{done-append}
use Rattle.tk_run.proofs.ticks.+fn-serve_all-join_mut+arg2+fn-serve_all-join_mut+arg3+serve_all.Goals as goal

pub returns : goal.returns
returns g t c good =
    let made = g.A.Clerk.made c.args.shared.now in
    let first = c.split_at_mut-front.result.0.now in
    let second = c.split_at_mut-front.result.1.now in
    let left = c.split_at_mut-left.result.0.now in
    let right = c.split_at_mut-left.result.1.now in
    let two = and_parts c.join_mut-one.result.0 c.join_mut-one.result.1 good in
    let front : c.join_mut-one.result.0 ≡ true →
    Done made first left c.left-1.given.0 c.front-1.given.0 =
    search rules
    in
    let back : c.join_mut-one.result.1 ≡ true →
    Done made second right c.right-1.given.0 c.back-1.given.0 =
    search rules
    in
    let desks = c.left-1.given.0 ++ c.right-1.given.0 in
    let actors = c.front-1.given.0 ++ c.back-1.given.0 in
    subst (λ xs. Done made xs c.args.desks.now desks actors)
    (sym c.split_at_mut-front.ensures.value)
    (subst (λ ds. Done made (first ++ second) ds desks actors)
    (sym c.split_at_mut-left.ensures.value)
    (done-append made first left c.left-1.given.0 c.front-1.given.0 second right
    c.right-1.given.0 c.back-1.given.0 (front two.0) (back two.1)))
