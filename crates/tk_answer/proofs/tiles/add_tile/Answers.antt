use Rattle.std.proofs.Common.{◌≡◌, ◌∙◌, ◌+◌, ◌-◌, ◌/◌, ◌%◌, ◌<◌, ◌≤◌, length, ap, arith}
use Rattle.tk_answer.proofs.Runs.{cut_of_run, front_of_run, blocks-in_front, gathered_run, gathered_count}
use Rattle.tk_answer.proofs.ManySums.{sums_sized, vectors_reach, tile_added}
use Rattle.tk_answer.proofs.tiles.add_tile.Goals as goal

pub xor_choose_each-requires-clause-sized : goal.xor_choose_each-requires-clause-sized
xor_choose_each-requires-clause-sized g c = rw c.width-width.ensures.width (sums_sized _ _ _ _ _ c.requires.begun)

pub xor_choose_each-requires-clause-whole : goal.xor_choose_each-requires-clause-whole
xor_choose_each-requires-clause-whole g c =
    let told = c.width-width.ensures in
    let run = c.run-run.result.now in
    let tile = c.min-tile.result in
    let some : 0 < tile = omega (arith, c.min-tile.ensures, c.tile_len.ensures.some, c.count.ensures, c.requires.within) in
    let few : tile ≤ length run / g.B.Blocks.width c.args.blocks.now = omega (arith, ap (λ n. length run / n) told.width, c.if-run-width.true) in
    rw told.width (cut_of_run _ _ told.some told.each _ _ (front_of_run _ _ told.some told.each _ _ c.run-run.ensures tile few some)).whole

pub xor_choose_each-requires-clause-eights : goal.xor_choose_each-requires-clause-eights
xor_choose_each-requires-clause-eights g c =
    let told = c.width-width.ensures in
    let run = c.run-run.result.now in
    let tile = c.min-tile.result in
    let few : tile ≤ length run / g.B.Blocks.width c.args.blocks.now = omega (arith, ap (λ n. length run / n) told.width, c.if-run-width.true) in
    let eights : tile % 8 ≡ 0 = omega (arith, c.min-tile.ensures, c.tile_len.ensures.eights, c.count.ensures, c.requires.within, c.requires.from, c.requires.eights) in
    rw told.width (ap (λ n. n % 8) (blocks-in_front _ _ told.some told.each _ _ c.run-run.ensures tile few) ∙ eights)

pub returns-then-run-width-clause-sums : goal.returns-then-run-width-clause-sums
returns-then-run-width-clause-sums g c =
    let told = c.width-width.ensures in
    let run = c.run-run.result.now in
    let tile = c.min-tile.result in
    let some : 0 < tile = omega (arith, c.min-tile.ensures, c.tile_len.ensures.some, c.count.ensures, c.requires.within) in
    let few : tile ≤ length run / g.B.Blocks.width c.args.blocks.now = omega (arith, ap (λ n. length run / n) told.width, c.if-run-width.true) in
    let each = rw told.width at c.xor_choose_each.ensures.each in
    tile_added _ _ _ told.some told.each _ tile _ _ _ c.requires.begun
    (front_of_run _ _ told.some told.each _ _ c.run-run.ensures tile few some)
    (blocks-in_front _ _ told.some told.each _ _ c.run-run.ensures tile few)
    c.requires.from c.xor_choose_each.ensures.count each

pub xor_choose_each-requires-2-clause-sized : goal.xor_choose_each-requires-2-clause-sized
xor_choose_each-requires-2-clause-sized g c = rw c.width-width.ensures.width (sums_sized _ _ _ _ _ c.requires.begun)

pub xor_choose_each-requires-2-clause-whole : goal.xor_choose_each-requires-2-clause-whole
xor_choose_each-requires-2-clause-whole g c =
    let told = c.width-width.ensures in
    let next = c.args.from + c.min-tile.result in
    let less : c.args.from < next = omega (arith, c.min-tile.ensures, c.tile_len.ensures.some, c.count.ensures, c.requires.within) in
    let within : next ≤ length (g.B.Blocks.blocks c.args.blocks.now) = omega (arith, c.min-tile.ensures, c.count.ensures, c.requires.within) in
    rw told.width (cut_of_run _ _ told.some told.each _ _ (gathered_run _ _ told.some told.each _ next _ less within (c.as_slice.ensures.value ∙ c.in_ok-gather.ensures))).whole

pub xor_choose_each-requires-2-clause-eights : goal.xor_choose_each-requires-2-clause-eights
xor_choose_each-requires-2-clause-eights g c =
    let told = c.width-width.ensures in
    let next = c.args.from + c.min-tile.result in
    let less : c.args.from < next = omega (arith, c.min-tile.ensures, c.tile_len.ensures.some, c.count.ensures, c.requires.within) in
    let within : next ≤ length (g.B.Blocks.blocks c.args.blocks.now) = omega (arith, c.min-tile.ensures, c.count.ensures, c.requires.within) in
    let eights : (next - c.args.from) % 8 ≡ 0 = omega (arith, c.min-tile.ensures, c.tile_len.ensures.eights, c.count.ensures, c.requires.within, c.requires.from, c.requires.eights) in
    rw told.width (ap (λ n. n % 8) (gathered_count _ _ told.some told.each _ next _ less within (c.as_slice.ensures.value ∙ c.in_ok-gather.ensures)) ∙ eights)

pub xor_choose_each-requires-2-clause-vectors : goal.xor_choose_each-requires-2-clause-vectors
xor_choose_each-requires-2-clause-vectors g c =
    let told = c.width-width.ensures in
    let next = c.args.from + c.min-tile.result in
    let less : c.args.from < next = omega (arith, c.min-tile.ensures, c.tile_len.ensures.some, c.count.ensures, c.requires.within) in
    let within : next ≤ length (g.B.Blocks.blocks c.args.blocks.now) = omega (arith, c.min-tile.ensures, c.count.ensures, c.requires.within) in
    let eights : (next - c.args.from) % 8 ≡ 0 = omega (arith, c.min-tile.ensures, c.tile_len.ensures.eights, c.count.ensures, c.requires.within, c.requires.from, c.requires.eights) in
    let count = gathered_count _ _ told.some told.each _ next _ less within (c.as_slice.ensures.value ∙ c.in_ok-gather.ensures) in
    rw (told.width, count) (vectors_reach _ c.args.from (next - c.args.from) _ c.requires.vectors c.requires.from eights (omega arith))

pub returns-clause-sums : goal.returns-clause-sums
returns-clause-sums g c =
    let told = c.width-width.ensures in
    let tile = c.min-tile.result in
    let next = c.args.from + tile in
    let less : c.args.from < next = omega (arith, c.min-tile.ensures, c.tile_len.ensures.some, c.count.ensures, c.requires.within) in
    let within : next ≤ length (g.B.Blocks.blocks c.args.blocks.now) = omega (arith, c.min-tile.ensures, c.count.ensures, c.requires.within) in
    let joined = c.as_slice.ensures.value ∙ c.in_ok-gather.ensures in
    let tile_is : next - c.args.from ≡ tile = omega arith in
    let each = rw told.width at c.xor_choose_each-2.ensures.each in
    tile_added _ _ _ told.some told.each _ tile _ _ _ c.requires.begun
    (gathered_run _ _ told.some told.each _ next _ less within joined)
    (gathered_count _ _ told.some told.each _ next _ less within joined ∙ tile_is)
    c.requires.from c.xor_choose_each-2.ensures.count each
