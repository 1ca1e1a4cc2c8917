-- A tap that fails has a front of what its server saw.
use Rattle.std.proofs.Common.{◌≡◌, ◌+◌, ◌-◌, ◌<◌, ap, ◌∙◌, arith, length, [], ℕ, subst}
use Rattle.std.specs.Prelude.{slice_index_or}
use Rattle.std.proofs.lemmas.List.{get_or_default}
use Rattle.tk_io.specs.Tapped.{GainsFront}
use Rattle.tk_io.proofs.Offers.{fronts-here, kept-here, on_err}
use Rattle.tk_relay.proofs.frames_seen.give_sights.Goals as goal

pub returns-in_err-put-clause-err : goal.returns-in_err-put-clause-err
returns-in_err-put-clause-err g c =
    let sights = c.args.sights.now in
    let bytes = λ (j : ℕ). slice_index_or sights (j - 1) [] in
    let old = g.T.Taps.tap c.args.taps.now in
    let mid = g.T.Taps.tap c.giving.taps in
    let new = g.T.Taps.tap c.put.new.self in
    let i = c.giving.i in
    let low : i < length sights = omega (arith, c.giving-test.true) in
    let saw : c.as_slice.result.now ≡ bytes (i + 1) =
    c.as_slice.ensures
    ∙ (c.index-sights-i.is ∙ (get_or_default sights i c.index-sights-i.result [] low
    ∙ ap (λ (k : ℕ). slice_index_or sights k []) (omega arith)))
    in
    let front : GainsFront (mid (i + 1)) (new (i + 1)) (bytes (i + 1)) =
    subst (GainsFront (mid (i + 1)) (new (i + 1))) saw c.in_err-put.ensures.err
    in
    on_err _ c.from_residual.result
    (fronts-here i (length sights) bytes old mid new c.giving.invariant.gave
    c.giving.invariant.others front c.put.ensures.others)

pub returns-in_err-put-clause-others : goal.returns-in_err-put-clause-others
returns-in_err-put-clause-others g c =
    let sights = c.args.sights.now in
    let old = g.T.Taps.tap c.args.taps.now in
    let mid = g.T.Taps.tap c.giving.taps in
    let new = g.T.Taps.tap c.put.new.self in
    let i = c.giving.i in
    kept-here i (length sights) old mid new (omega (arith, c.giving-test.true))
    c.giving.invariant.others c.put.ensures.others
