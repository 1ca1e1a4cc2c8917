-- What was fetched comes next, and is as much as was missing.
use Rattle.std.proofs.Common.{◌∙◌, ◌≤◌, ◌+◌, ◌-◌, ap, arith, length, map, take, drop}
use Rattle.std.specs.Arc.{arc_value}
use Rattle.tk_replica.proofs.Following.{fetched-next, fetched-enough}
use Rattle.tk_replica.proofs.followed.Followed.catch_up.Goals as goal

pub apply_all-requires : goal.apply_all-requires
apply_all-requires g c =
    let f = c.self.inside in
    let upto = c.args.upto in
    let low : f.state.applied ≤ upto =
    omega (arith, c.applied-from.ensures, c.if-upto-from.false) in
    let high : upto ≤ length f.seat.seen =
    omega (arith, c.requires, ap (λ x. length x.list) c.self.view_is) in
    fetched-next f.state.applied upto f.seat.seen c.fetch.new.seat.seen
    (map (λ a. arc_value a) c.as_slice.result.now)
    (ap (map (λ a. arc_value a)) c.as_slice.ensures.value
    ∙ (c.in_ok-entries.ensures.found
    ∙ ap (λ n. drop (n + 1 - 1) (take upto f.seat.seen)) c.applied-from.ensures))
    (c.in_ok-entries.ensures.sees).seen low high

pub returns-clause-applied : goal.returns-clause-applied
returns-clause-applied g c =
    let f = c.self.inside in
    let upto = c.args.upto in
    let low : f.state.applied ≤ upto =
    omega (arith, c.applied-from.ensures, c.if-upto-from.false) in
    let high : upto ≤ length f.seat.seen =
    omega (arith, c.requires, ap (λ x. length x.list) c.self.view_is) in
    fetched-enough (λ a. arc_value a) c.as_slice.result.now f.state.applied upto
    c.apply_all.new.self.state.applied f.seat.seen c.apply_all.result
    (ap (map (λ a. arc_value a)) c.as_slice.ensures.value
    ∙ (c.in_ok-entries.ensures.found
    ∙ ap (λ n. drop (n + 1 - 1) (take upto f.seat.seen)) c.applied-from.ensures))
    low high c.apply_all.ensures.applied
