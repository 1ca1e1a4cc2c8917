-- The blocks of a run.
use Rattle.std.proofs.Common.{◌≡◌, ◌∙◌, ◌+◌, ◌*◌, ◌/◌, ◌++◌, length, take, ap, sym, arith}
use Rattle.std.specs.List.{concat}
use Rattle.std.proofs.Math.Nat.{mul-le-mul_right}
use Rattle.tk_answer.proofs.Offers.{bytes-in_run, blocks-in_run}
use Rattle.tk_checkpoint.proofs.Appending.{blocks_more}
use Rattle.tk_checkpoint.proofs.append.put_blocks.Goals as goal

pub put-requires : goal.put-requires
put-requires g c =
    let told = c.width-width.ensures in
    let run = c.run-run.ensures in
    let long = bytes-in_run _ _ told.some told.each _ _ run in
    let most = mul-le-mul_right (g.B.Blocks.width c.args.blocks.now) run.within in
    let was = c.loop-done.invariant in
    omega (arith, long, most, was.len, was.capacity, c.requires)

pub overflow_cast-done : goal.overflow_cast-done
overflow_cast-done g c =
    let told = c.width-width.ensures in
    let run = c.run-run.ensures in
    let count = blocks-in_run _ _ told.some told.each _ _ run in
    omega (arith, ap (λ n. length c.run-run.result.now / n) told.width, count, run.within, c.count-count.ensures)

pub overflow_add-done : goal.overflow_add-done
overflow_add-done g c =
    let told = c.width-width.ensures in
    let run = c.run-run.ensures in
    let count = blocks-in_run _ _ told.some told.each _ _ run in
    omega (arith, ap (λ n. length c.run-run.result.now / n) told.width, count, run.within, c.count-count.ensures)

pub loop-done-smaller : goal.loop-done-smaller
loop-done-smaller g c =
    let told = c.width-width.ensures in
    let run = c.run-run.ensures in
    let count = blocks-in_run _ _ told.some told.each _ _ run in
    omega (
      arith,
      ap (λ n. length c.run-run.result.now / n) told.width,
      count,
      run.some,
      run.within,
      c.count-count.ensures,
    )

pub loop-done-preserved : goal.loop-done-preserved
loop-done-preserved g c =
    let told = c.width-width.ensures in
    let run = c.run-run.ensures in
    let blocks = g.B.Blocks.blocks c.args.blocks.now in
    let width = g.B.Blocks.width c.args.blocks.now in
    let done = c.loop-done.done in
    let was = c.loop-done.invariant in
    let long = bytes-in_run _ _ told.some told.each _ _ run in
    let count : length c.run-run.result.now / c.width-width.result ≡ run.count =
    ap (λ n. length c.run-run.result.now / n) told.width ∙ blocks-in_run _ _ told.some told.each _ _ run in
    record {
      within = omega (arith, count, run.within);
      items = c.put.ensures.items
          ∙ blocks_more blocks c.args.out.now.items c.loop-done.out.items c.run-run.result.now done run.count
          was.items run.joined
          ∙ ap (λ n. c.args.out.now.items ++ concat (take (done + n) blocks)) (sym count);
      len = omega (arith, c.put.ensures.len, was.len, long, ap (λ n. n * width) count);
      capacity = omega (arith, c.put.ensures.capacity, was.capacity);
    }
