use Rattle.std.proofs.Common.{◌≡◌, ◌∙◌, ◌/◌, length, replicate, ap, arith}
use Rattle.tk_answer.proofs.Runs.{nothing_done, cut_of_run, run_added, all_done}
use Rattle.tk_answer.proofs.sum.answer.Goals as goal

pub loop-done-init : goal.loop-done-init
loop-done-init g c =
    let told = c.width-width.ensures in
    let zeros = c.fill.ensures.after (λ y e. e) ∙ ap (λ n. replicate n 0) c.requires.width in
    rw zeros (nothing_done _ _ told.some told.each _)

pub xor_choose-requires-clause-whole : goal.xor_choose-requires-clause-whole
xor_choose-requires-clause-whole g c =
    let told = c.width-width.ensures in
    let long : length c.loop-done.out ≡ g.B.Blocks.width c.args.blocks.now =
    omega (arith, c.loop-done.auto.out, c.fill.ensures.len, c.requires.width) in
    rw long (cut_of_run _ _ told.some told.each _ _ c.run-run.ensures).whole

pub xor_choose-requires-clause-in_vector : goal.xor_choose-requires-clause-in_vector
xor_choose-requires-clause-in_vector g c =
    let told = c.width-width.ensures in
    let long : length c.loop-done.out ≡ g.B.Blocks.width c.args.blocks.now =
    omega (arith, c.loop-done.auto.out, c.fill.ensures.len, c.requires.width) in
    let cut = cut_of_run _ _ told.some told.each _ _ c.run-run.ensures in
    rw long (omega (arith, cut.within, c.requires.count))

pub overflow_cast-done : goal.overflow_cast-done
overflow_cast-done g c =
    let told = c.width-width.ensures in
    let cut = cut_of_run _ _ told.some told.each _ _ c.run-run.ensures in
    omega (arith, ap (λ n. length c.run-run.result.now / n) told.width, cut.within, c.count-count.ensures)

pub overflow_add-done : goal.overflow_add-done
overflow_add-done g c =
    let told = c.width-width.ensures in
    let cut = cut_of_run _ _ told.some told.each _ _ c.run-run.ensures in
    omega (arith, ap (λ n. length c.run-run.result.now / n) told.width, cut.within, c.count-count.ensures)

pub loop-done-smaller : goal.loop-done-smaller
loop-done-smaller g c =
    let told = c.width-width.ensures in
    let cut = cut_of_run _ _ told.some told.each _ _ c.run-run.ensures in
    omega (arith, ap (λ n. length c.run-run.result.now / n) told.width, cut.some, cut.within, c.count-count.ensures)

pub loop-done-preserved : goal.loop-done-preserved
loop-done-preserved g c =
    let told = c.width-width.ensures in
    let long : length c.loop-done.out ≡ g.B.Blocks.width c.args.blocks.now =
    omega (arith, c.loop-done.auto.out, c.fill.ensures.len, c.requires.width) in
    let sum = rw long at c.xor_choose.ensures in
    rw (told.width, sum) (run_added _ _ told.some told.each _ _ _ _ c.run-run.ensures c.loop-done.invariant)

pub returns : goal.returns
returns g c =
    let told = c.width-width.ensures in
    all_done _ _ told.some told.each _ _ _ (omega (arith, c.count-count.ensures)) c.loop-done.invariant
