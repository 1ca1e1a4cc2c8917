use Rattle.std.proofs.Common.{◌∙◌, arith, length-set}
use Rattle.std.proofs.lemmas.List.{take_all}
use Rattle.tk_kernel.proofs.Fours.{first_bytes_of, byte_copied}
use Rattle.tk_kernel.proofs.words.short_word.Goals as goal

pub loop-i-preserved : goal.loop-i-preserved
loop-i-preserved c =
    let bytes = c.args.bytes.now in
    let i = c.loop-i.i in (
      length-set c.loop-i.eight i _ ∙ c.loop-i.invariant.0,
      byte_copied c.loop-i.eight bytes i (omega (arith, c.loop-i.invariant.0, c.loop-i-test.true, c.requires)) (omega (arith, c.loop-i-test.true)) c.loop-i.invariant.1,
    )

pub returns : goal.returns
returns c =
    let eight = c.loop-i.eight in
    first_bytes_of c.word_at.result c.loop-i.i eight c.args.bytes.now c.requires (omega (arith, c.loop-i-test.false))
    (c.word_at.ensures ∙ take_all 8 eight (omega (arith, c.loop-i.invariant.0)))
    c.loop-i.invariant.1
