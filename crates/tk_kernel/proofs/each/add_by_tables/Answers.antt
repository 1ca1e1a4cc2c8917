use Rattle.std.proofs.Common.{◌+◌, ◌*◌, ◌/◌, ◌≤◌, length, arith}
use Rattle.std.proofs.lemmas.List.{take_rest}
use Rattle.tk_kernel.proofs.Whole.{enough, passed, all_passed}
use Rattle.tk_kernel.proofs.each.add_by_tables.Goals as goal

pub add_pass-requires-clause-blocks : goal.add_pass-requires-clause-blocks
add_pass-requires-clause-blocks c =
    let upto : c.loop-done.done + c.min-bytes.result ≤ length c.args.blocks.now / c.args.size / 8 = omega (arith, c.min-bytes.ensures, c.loop-done-test.true) in
    rw (take_rest c.args.blocks.now (8 * c.loop-done.done * c.args.size))
    (enough c.args.size c.args.first c.args.blocks.now c.args.vectors.now c.args.sums.now c.requires.some c.requires.whole c.requires.eights c.requires.sized c.loop-done.done c.min-bytes.result upto)

pub loop-done-preserved : goal.loop-done-preserved
loop-done-preserved c =
    let upto : c.loop-done.done + c.min-bytes.result ≤ length c.args.blocks.now / c.args.size / 8 = omega (arith, c.min-bytes.ensures, c.loop-done-test.true) in
    let each = rw (take_rest c.args.blocks.now (8 * c.loop-done.done * c.args.size)) at c.add_pass.ensures.each in
    passed _ _ _ _ _ c.requires.some c.requires.whole c.requires.eights c.requires.sized c.loop-done.done c.min-bytes.result c.loop-done.sums c.add_pass.new.sums upto c.loop-done.invariant c.add_pass.ensures.count each

pub returns-clause-each : goal.returns-clause-each
returns-clause-each c =
    all_passed _ _ _ _ _ c.requires.some c.requires.whole c.requires.eights c.requires.sized c.loop-done.done c.loop-done.sums c.loop-done-test.false c.loop-done.invariant
