use Rattle.std.proofs.Common.{◌≡◌, ◌∙◌, ◌*◌, ◌/◌, ◌≤◌, length, take, drop, ap, arith}
use Rattle.std.specs.List.{concat}
use Rattle.tk_answer.proofs.Runs.{cut_of_run, front_joined, gathered_more}
use Rattle.tk_answer.proofs.tiles.gather.Goals as goal

pub loop-done-smaller : goal.loop-done-smaller
loop-done-smaller g c =
    let told = c.width-width.ensures in
    let cut = cut_of_run _ _ told.some told.each _ _ c.run-run.ensures in
    omega (arith, ap (λ n. length c.run-run.result.now / n) told.width, cut.some, cut.within, c.min-found.ensures, c.loop-done-test.true)

pub loop-done-preserved : goal.loop-done-preserved
loop-done-preserved g c =
    let told = c.width-width.ensures in
    let B = g.B.Blocks in
    let blocks = B.blocks c.args.blocks.now in
    let run = c.run-run.result.now in
    let found = c.min-found.result in
    let (order, within, so_far) = c.loop-done.invariant in
    let few : found ≤ length run / B.width c.args.blocks.now = omega (arith, ap (λ n. length run / n) told.width, c.min-found.ensures) in
    let part : take (found * c.width-width.result) run ≡ concat (take found (drop c.loop-done.done blocks)) =
    rw told.width (front_joined _ _ told.some told.each _ _ c.run-run.ensures found few) in (
      omega (arith, order),
      omega (arith, c.min-found.ensures, c.loop-done-test.true),
      c.in_ok-extend_from_slice.ensures.items
          ∙ gathered_more _ _ told.some told.each c.args.from c.loop-done.done found c.loop-done.gathered.items (take (found * c.width-width.result) run) order so_far part,
    )
