use Rattle.std.proofs.Common.{◌∙◌, ◌+◌, ◌*◌, ◌/◌, ◌<◌, ap, arith, inl, inr}
use Rattle.std.proofs.lemmas.Bool.{cases_lt}
use Rattle.tk_frames.specs.Fields.{long_at}
use Rattle.tk_checkpoint.proofs.Places.{length-positions, there_is, lower, higher}
use Rattle.tk_checkpoint.proofs.finding.place_of.Goals as goal

pub returns-then-there-position : goal.returns-then-there-position
returns-then-there-position c =
    let hits = c.args.shape.now.hits in
    let window = c.args.window.now in
    let middle = (c.loop-low.low + c.loop-low.high) / 2 in
    let inside : middle < c.args.count = omega (arith, c.loop-low-test.true, c.loop-low.invariant.within) in
    let read = c.u64_at-there.ensures ∙ ap (λ n. long_at (middle * n) window) c.entry_len-len.ensures in (
      omega (arith, inside, length-positions hits c.args.count window),
      there_is hits c.args.count middle c.args.position c.u64_at-there.result window inside c.requires.ascending read
          ∙ c.if-there-position.true,
    )

pub loop-low-preserved-then-there-position-2 : goal.loop-low-preserved-then-there-position-2
loop-low-preserved-then-there-position-2 c =
    let hits = c.args.shape.now.hits in
    let window = c.args.window.now in
    let middle = (c.loop-low.low + c.loop-low.high) / 2 in
    let inside : middle < c.args.count = omega (arith, c.loop-low-test.true, c.loop-low.invariant.within) in
    let read = c.u64_at-there.ensures ∙ ap (λ n. long_at (middle * n) window) c.entry_len-len.ensures in
    record {
      order = omega (arith, c.loop-low-test.true);
      within = c.loop-low.invariant.within;
      before = lower hits c.args.count middle c.args.position c.u64_at-there.result window inside c.requires.ascending read
          c.if-there-position-2.true;
      behind = c.loop-low.invariant.behind;
    }

pub loop-low-preserved : goal.loop-low-preserved
loop-low-preserved c =
    let hits = c.args.shape.now.hits in
    let window = c.args.window.now in
    let middle = (c.loop-low.low + c.loop-low.high) / 2 in
    let inside : middle < c.args.count = omega (arith, c.loop-low-test.true, c.loop-low.invariant.within) in
    let read = c.u64_at-there.ensures ∙ ap (λ n. long_at (middle * n) window) c.entry_len-len.ensures in
    let above : c.args.position < c.u64_at-there.result =
    grind (arith, c.if-there-position.false, c.if-there-position-2.false) in
    record {
      order = omega (arith, c.loop-low-test.true);
      within = omega (arith, inside);
      before = c.loop-low.invariant.before;
      behind = higher hits c.args.count middle c.args.position c.u64_at-there.result window inside c.requires.ascending read
          above;
    }

pub returns : goal.returns
returns c i low e =
    let inside : i < c.args.count = omega (arith, low, length-positions c.args.shape.now.hits c.args.count c.args.window.now) in
    elim (cases_lt i c.loop-low.low) [
      | inl before ↦ let less = c.loop-low.invariant.before i before in omega (arith, e, less)
      | inr behind ↦
          let more = c.loop-low.invariant.behind i (omega (arith, behind, c.loop-low-test.false)) inside in
          omega (arith, e, more)
    ]
