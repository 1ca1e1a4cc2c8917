use Rattle.std.proofs.Common.{◌∙◌, ◌*◌, ap, ap₂, arith, drop, length, take}
use Rattle.std.proofs.lemmas.Nat.{row_fits}
use Rattle.std.proofs.lemmas.List.{length-drop}
use Rattle.tk_shape.specs.Lengths.{slot_len}
use Rattle.tk_table.specs.Restoring.{learned}
use Rattle.tk_table.proofs.Spelled.{length-slots_spelled}
use Rattle.tk_table.proofs.Learning.{one_more_learned}
use Rattle.tk_table.proofs.learn.pairs_of.Goals as goal

pub split_at-requires : goal.split_at-requires
split_at-requires c =
    let shape = c.args.shape.now in
    let len = slot_len shape in
    let ends = row_fits c.loop-read._read len (shape.buckets * shape.depth) len c.loop-read-test.true (omega arith) in
    let left = ap length c.loop-read.invariant.left ∙ length-drop (c.loop-read._read * len) c.args.bytes.now in
    omega (arith, ends, left, c.requires.whole, c.slot_len-len.ensures)

pub loop-read-preserved : goal.loop-read-preserved
loop-read-preserved c =
    let shape = c.args.shape.now in
    let rest = c.loop-read.rest.now in
    one_more_learned shape c.args.positions.now c.args.bytes.now c.requires.sound c.loop-read._read
    c.loop-read-test.true c.loop-read.pairs.items rest c.split_at.result.0.now c.loop-read.invariant
    (c.split_at.ensures.front ∙ ap (λ n. take n rest) c.slot_len-len.ensures)
    c.learn.new.pairs.items c.split_at.result.1.now
    (c.learn.ensures
    ∙ ap₂ (λ x v. learned c.args.positions.now c.loop-read.pairs.items x v) c.u64_at.ensures
    (ap₂ (λ a b. (a, b)) c.u32_at.ensures c.u32_at-in-loop-read.ensures))
    (c.split_at.ensures.back ∙ ap (λ n. drop n rest) c.slot_len-len.ensures)

pub returns-clause-known : goal.returns-clause-known
returns-clause-known c n low =
    c.loop-read.invariant.known n
    (omega (arith, low, length-slots_spelled c.args.shape.now c.args.bytes.now, c.loop-read-test.false))
