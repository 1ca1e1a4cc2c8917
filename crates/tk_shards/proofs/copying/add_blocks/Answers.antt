-- The blocks of a run, as many of them as are wanted.
use Rattle.std.proofs.Common.{◌≡◌, ◌∙◌, ◌*◌, ◌/◌, ◌≤◌, length, take, drop, ap, arith}
use Rattle.std.specs.List.{concat}
use Rattle.tk_shards.proofs.Gathered.{count-run, front-run, gathered-more}
use Rattle.tk_shards.proofs.copying.add_blocks.Goals as goal

pub loop-done-smaller : goal.loop-done-smaller
loop-done-smaller g c =
    let told = c.width-width.ensures in
    let count = count-run _ _ told.some told.each _ _ c.run-run.ensures in
    let run = c.run-run.ensures in
    omega (
      arith,
      ap (λ n. length c.run-run.result.now / n) told.width,
      count,
      run.some,
      run.within,
      c.min-found.ensures,
      c.loop-done-test.true,
    )

pub loop-done-preserved : goal.loop-done-preserved
loop-done-preserved g c =
    let told = c.width-width.ensures in
    let B = g.B.Blocks in
    let blocks = B.blocks c.args.blocks.now in
    let run = c.run-run.result.now in
    let found = c.min-found.result in
    let (order, within, so_far) = c.loop-done.invariant in
    let few : found ≤ length run / B.width c.args.blocks.now =
    omega (arith, ap (λ n. length run / n) told.width, c.min-found.ensures) in
    let part : take (found * c.width-width.result) run ≡ concat (take found (drop c.loop-done.done blocks)) =
    rw told.width (front-run _ _ told.some told.each _ found _ c.run-run.ensures few) in (
      omega (arith, order),
      omega (arith, c.min-found.ensures, c.loop-done-test.true),
      c.in_ok-extend_from_slice.ensures.items
          ∙ gathered-more _ _ c.loop-done.bytes.items (take (found * c.width-width.result) run)
          c.args.from c.loop-done.done found order so_far part,
    )
