use Rattle.std.proofs.Common.{◌∙◌, ◌+◌, ◌*◌, ◌≤◌, take, slice_index, arith}
use Rattle.std.specs.Simd.Lanes.{chunk}
use Rattle.tk_kernel.specs.Nibbles.{taken}
use Rattle.tk_kernel.proofs.Passed.{columns_added, columns_sized}
use Rattle.tk_kernel.proofs.columns.add_stripes.Goals as goal

pub loop-i-preserved : goal.loop-i-preserved
loop-i-preserved g c =
    let pass = c.args.pass.now in
    let i = c.loop-i.i in
    let tables = take (2 * pass.bytes) c.make_tables.new.tables in
    let next : i + g.row.N ≤ pass.size = omega (arith, c.loop-i-test.true, c.requires.some) in
    let before = c.loop-i.invariant in (
      next,
      c.add_to_each.ensures.count ∙ before.1,
      columns_sized pass.size i c.loop-i.sums c.add_to_each.new.sums (λ k xs. taken tables (chunk i g.row.N xs) (slice_index c.args.words.now k)) c.add_to_each.ensures.count before.2 c.add_to_each.ensures.each,
      λ start sized front. columns_added g.row.N pass.size i pass.bytes pass.blocks.now c.args.words.now start c.loop-i.sums c.add_to_each.new.sums tables next c.requires.blocks sized before.2 (before.3 start sized front) c.make_tables.ensures c.add_to_each.ensures.count c.add_to_each.ensures.each,
    )
