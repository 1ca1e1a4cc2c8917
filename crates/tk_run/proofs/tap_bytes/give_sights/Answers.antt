-- A tap that fails has a front of what its server saw.
use Rattle.std.proofs.Common.{◌≡◌, ◌+◌, ◌-◌, ◌<◌, ap, ◌∙◌, arith, length, List, [], ℕ, subst}
use Rattle.std.specs.Prelude.{slice_index_or, Option, Result, Ok, Err}
use Rattle.std.specs.Result.{IsErr}
use Rattle.std.proofs.lemmas.List.{get_or_default}
use Rattle.tk_io.specs.Tapped.{GainsFront, TapsGainFronts, TapsKeepBut}
use Rattle.tk_io.proofs.Offers.{fronts-here, kept-here}
use Rattle.tk_run.specs.Threads.{TapsAfter}
use Rattle.tk_run.proofs.tap_bytes.give_sights.Goals as goal

-- an error with fronts
failed : {X E : Type 0} (r : Result X E) (n : ℕ) (bytes : ℕ → List ℕ)
    (old new : ℕ → Option (List ℕ)) → IsErr r → TapsGainFronts n bytes old new →
    TapsKeepBut n old new → TapsAfter r n bytes old new
failed (Ok x) n bytes old new is fronts keep = absurd (cc is)
failed (Err d) n bytes old new is fronts keep =
    record { ok = tt; err = fronts; others = keep }

pub returns-in_err-put-clause-taps : goal.returns-in_err-put-clause-taps
returns-in_err-put-clause-taps g c =
    let sights = c.args.sights.now in
    let bytes = λ (j : ℕ). slice_index_or sights (j - 1) [] in
    let old = g.T.Taps.tap c.args.taps.now in
    let mid = g.T.Taps.tap c.giving.taps in
    let new = g.T.Taps.tap c.put.new.self in
    let i = c.giving.i in
    let low : i < length sights = omega (arith, c.giving-test.true) in
    let saw : c.as_slice.result.now ≡ bytes (i + 1) =
    c.as_slice.ensures
    ∙ (c.index-sights-i.is ∙ (get_or_default sights i c.index-sights-i.result [] low
    ∙ ap (λ (k : ℕ). slice_index_or sights k []) (omega arith)))
    in
    let front : GainsFront (mid (i + 1)) (new (i + 1)) (bytes (i + 1)) =
    subst (GainsFront (mid (i + 1)) (new (i + 1))) saw c.in_err-put.ensures.err
    in
    failed c.from_residual.result (length sights) bytes old new c.from_residual.ensures.0
    (fronts-here i (length sights) bytes old mid new c.giving.invariant.gave
    c.giving.invariant.others front c.put.ensures.others)
    (kept-here i (length sights) old mid new low c.giving.invariant.others c.put.ensures.others)
