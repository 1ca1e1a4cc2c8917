-- Each part is mixed with those before it.
use Rattle.std.proofs.Common.{◌≡◌, ◌∙◌, ◌<◌, ℕ, List, length, get_or, ap, ap₂, arith}
use Rattle.std.proofs.lemmas.List.{get_or_default}
use Rattle.tk_relay.specs.declared.part.Part.{Part}
use Rattle.tk_relay.specs.Halves.{Halves, mixed}
use Rattle.tk_relay.specs.Parts.{halves_of, part_with, blank_part}
use Rattle.tk_relay.specs.Serving.{gathered_part}
use Rattle.tk_relay.proofs.GatheringLaws.{joining-first, joining-next, joining-last}
use Rattle.tk_relay.proofs.gather_back.gather.Goals as goal

pub loop-i-preserved : goal.loop-i-preserved
loop-i-preserved c =
    let parts = c.args.parts.now in
    let i = c.loop-i.i in
    let so_far = c.loop-i.invariant in
    let within : i < length parts = omega arith in
    let x = c.index-parts-i.result in
    let y = c.index-parts-i-in-loop-i.result in
    let first : c.as_slice.result.now ≡ (get_or parts i blank_part).first =
    c.as_slice.ensures
    ∙ ap (λ (p : Part). p.first) (get_or_default parts i x blank_part within)
    in
    let second : c.as_slice-in-loop-i.result.now ≡ (get_or parts i blank_part).second =
    c.as_slice-in-loop-i.ensures
    ∙ ap (λ (p : Part). p.second)
    (get_or_default parts i y blank_part within)
    in
    let mixed_is : c.mix.new.self ≡ mixed c.loop-i.sum (halves_of (get_or parts i blank_part)) =
    c.mix.ensures
    ∙ ap₂ (λ (a b : List ℕ). mixed c.loop-i.sum (record { first = a; second = b })) first second
    in
    joining-next parts i c.loop-i.sum c.mix.new.self within c.requires.alike so_far mixed_is

pub loop-i-init : goal.loop-i-init
loop-i-init c =
    let parts = c.args.parts.now in
    let x = c.index-parts-0.result in
    let here = c.index-parts-0.is ∙ get_or_default parts 0 x blank_part (omega (arith, c.requires.some))
    in
    joining-first parts c.in_ok-sum.sum c.requires.some
    (c.in_ok-sum.ensures ∙ ap halves_of here)

pub returns-clause-gathered : goal.returns-clause-gathered
unfolding gathered_part
returns-clause-gathered c =
    let parts = c.args.parts.now in
    let x = c.index-parts-0.result in
    let here = c.index-parts-0.is ∙ get_or_default parts 0 x blank_part (omega (arith, c.requires.some))
    in
    let all = joining-last parts c.loop-i.i c.loop-i.sum (omega arith) c.loop-i.invariant in
    c.into_part.ensures
    ∙ ap₂ (λ (p : Part) (h : Halves). part_with p.client p.turn p.epoch h) here all
