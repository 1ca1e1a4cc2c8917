use Rattle.std.proofs.Common.{◌+◌, ◌<◌, ℕ, List, [], length, map, take, arith, sym, subst}
use Rattle.std.specs.Prelude.{Option, Some, None}
use Rattle.std.proofs.lemmas.List.{length-map, get_or-map}
use Rattle.tk_place.specs.Queue.{IsStamped}
use Rattle.tk_place.specs.Place.{Reached}
use Rattle.tk_place.specs.Views.{places_from}
use Rattle.tk_place.proofs.Ends.{IsAdding, adding_on}
use Rattle.tk_place.proofs.Lines.{length-places}
use Rattle.tk_place.proofs.queue.take_each.Goals as goal

pub take_place-taken-requires-clause-link : goal.take_place-taken-requires-clause-link
take_place-taken-requires-clause-link c =
    let before = length-places _ _ _ _ c.requires.stamped.line in
    let now = length-places _ _ _ _ c.loop-slot.invariant.0.line in
    omega (arith, before, now, c.loop-slot.invariant.1.within, c.requires.place)

pub loop-slot-preserved : goal.loop-slot-preserved
loop-slot-preserved c =
    let others = c.args.named.others.now in
    let slot = c.loop-slot.slot in
    let slots : List (Option ℕ) = map (λ b. Some b) others in
    let within : slot < length others = omega arith in
    let long = length-map others (λ (b : ℕ). Some b) in
    let before = length-places _ _ _ _ c.requires.stamped.line in
    let old : List Reached = places_from [] (take c.args.len c.args.places.now) in
    let so_far : List Reached = places_from [] (take c.loop-slot.taken c.loop-slot.places) in
    let e = c.take_place-taken.ensures.places in (
      subst (IsStamped c.take_place-taken.new.places c.take_place-taken.result c.take_place-taken.new.stamps c.args.stamp)
          c.loop-slot.auto.stamps c.take_place-taken.ensures.stamped,
      subst (IsAdding slots old c.args.named.place (slot + 1)) (sym e)
          (adding_on slots old c.args.named.place slot so_far _ c.loop-slot.invariant.1
          (omega (arith, before, c.requires.place)) (omega (arith, within, long))
          (get_or-map (λ (b : ℕ). Some b) others slot 0 None within)),
    )
