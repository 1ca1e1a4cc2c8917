use Rattle.std.proofs.Common.{sym, ◌∙◌, ◌+◌, arith, subst, length}
use Rattle.tk_place.specs.Search.{LeadToFull}
use Rattle.tk_place.proofs.Ends.{IsSearching, first_added, searching_first, searching_out}
use Rattle.tk_place.proofs.Later.{searching_ends_later}
use Rattle.tk_place.proofs.Leading.{led_joined, led_step, ended_behind}
use Rattle.tk_place.proofs.search.search.Goals as goal

pub returns-in-Some-clause-found : goal.returns-in-Some-clause-found
returns-in-Some-clause-found g c =
    let T = g.V.Slots.others c.args.slots.now in
    let so_far =
    subst (λ ps. IsSearching T c.args.new ps 0) (sym (first_added _ _ _ c.args.new c.clear.ensures.places c.add.ensures.places c.add-2.ensures.places))
    (searching_first T _ c.args.new c.depth-depth.ensures.table c.requires.first c.requires.second) in
    searching_ends_later _ _ _ _ _ _ so_far (omega arith) (λ k low high. absurd (omega (arith, high))) c.in-Some.ensures

pub returns-in-Some-first_leading-clause-found : goal.returns-in-Some-first_leading-clause-found
returns-in-Some-first_leading-clause-found g c =
    let T = g.V.Slots.others c.args.slots.now in
    let so_far =
    subst (λ ps. IsSearching T c.args.new ps 0) (sym (first_added _ _ _ c.args.new c.clear.ensures.places c.add.ensures.places c.add-2.ensures.places))
    (searching_first T _ c.args.new c.depth-depth.ensures.table c.requires.first c.requires.second) in
    ended_behind T _ c.args.new c.add-2.new.self.places _ 0 0 _ c.end_behind.result c.depth-depth.ensures.table so_far c.in_default.ensures (omega arith)
    (λ k low high. absurd (omega (arith, high))) c.in-Some-first_leading.ensures c.end_behind.ensures.end

pub loop-place-init : goal.loop-place-init
loop-place-init g c =
    let T = g.V.Slots.others c.args.slots.now in (
      c.add-2.ensures.buckets ∙ c.add.ensures.buckets ∙ c.clear.ensures.buckets ∙ c.requires.size,
      subst (λ ps. IsSearching T c.args.new ps 0) (sym (first_added _ _ _ c.args.new c.clear.ensures.places c.add.ensures.places c.add-2.ensures.places))
          (searching_first T _ c.args.new c.depth-depth.ensures.table c.requires.first c.requires.second),
      c.in_default.ensures,
      c.in_default-first_leading.ensures,
    )

pub first_leading_behind-requires-clause-full : goal.first_leading_behind-requires-clause-full
first_leading_behind-requires-clause-full g c =
    let so_far = c.loop-place.invariant in
    (led_step _ _ c.args.new c.loop-place.queue.places c.add_others.new.queue.places c.loop-place.place
    c.depth-depth.ensures.table so_far.1 (omega (arith, c.len.ensures.len)) so_far.2 so_far.3 c.add_others.ensures.places).full

pub first_leading_behind-requires-clause-behind : goal.first_leading_behind-requires-clause-behind
first_leading_behind-requires-clause-behind g c =
    let T = g.V.Slots.others c.args.slots.now in
    let so_far = c.loop-place.invariant in
    let later = c.add_others.new.queue.places in
    let step = led_step T _ c.args.new c.loop-place.queue.places later c.loop-place.place
    c.depth-depth.ensures.table so_far.1 (omega (arith, c.len.ensures.len)) so_far.2 so_far.3 c.add_others.ensures.places in
    λ all. subst (λ n. LeadToFull T later n (length later)) (sym c.len-tried.ensures.len) (step.behind all)

pub end_behind-requires-in-Some-first_leading_behind-clause-full :
    goal.end_behind-requires-in-Some-first_leading_behind-clause-full
end_behind-requires-in-Some-first_leading_behind-clause-full g c =
    let so_far = c.loop-place.invariant in
    (led_step _ _ c.args.new c.loop-place.queue.places c.add_others.new.queue.places c.loop-place.place
    c.depth-depth.ensures.table so_far.1 (omega (arith, c.len.ensures.len)) so_far.2 so_far.3 c.add_others.ensures.places).full

pub returns-in-Some-first_leading_behind-clause-found :
    goal.returns-in-Some-first_leading_behind-clause-found
returns-in-Some-first_leading_behind-clause-found g c =
    let T = g.V.Slots.others c.args.slots.now in
    let so_far = c.loop-place.invariant in
    let later = c.add_others.new.queue.places in
    let step = led_step T _ c.args.new c.loop-place.queue.places later c.loop-place.place
    c.depth-depth.ensures.table so_far.1 (omega (arith, c.len.ensures.len)) so_far.2 so_far.3 c.add_others.ensures.places in
    let tried = c.len-tried.ensures.len in
    ended_behind T _ c.args.new later _ (c.loop-place.place + 1) c.len-tried.result _ c.end_behind-in-Some-first_leading_behind.result
    c.depth-depth.ensures.table step.searching step.full (omega (arith, tried, c.len.ensures.len))
    (subst (LeadToFull T later 0) (sym tried) step.led) c.in-Some-first_leading_behind.ensures
    c.end_behind-in-Some-first_leading_behind.ensures.end

pub loop-place-preserved : goal.loop-place-preserved
loop-place-preserved g c =
    let T = g.V.Slots.others c.args.slots.now in
    let so_far = c.loop-place.invariant in
    let later = c.add_others.new.queue.places in
    let step = led_step T _ c.args.new c.loop-place.queue.places later c.loop-place.place
    c.depth-depth.ensures.table so_far.1 (omega (arith, c.len.ensures.len)) so_far.2 so_far.3 c.add_others.ensures.places in
    let tried = c.len-tried.ensures.len in (
      c.add_others.ensures.size ∙ so_far.0,
      step.searching,
      step.full,
      led_joined T later c.len-tried.result (subst (LeadToFull T later 0) (sym tried) step.led)
          c.in_default-first_leading_behind.ensures,
    )

pub returns-clause-found : goal.returns-clause-found
returns-clause-found g c = searching_out _ _ _ _ c.loop-place.invariant.1 (omega (arith, c.len.ensures.len))
