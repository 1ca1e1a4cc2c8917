use Rattle.std.proofs.Common.{◌∙◌, ap, arith}
use Rattle.std.proofs.lemmas.List.{length-drop, take_rest}
use Rattle.tk_kernel.specs.Pieces.{all_pieces}
use Rattle.tk_kernel.specs.Xor.{xor_bytes, xor_all}
use Rattle.tk_kernel.proofs.Whole.{chosen_behind}
use Rattle.tk_kernel.proofs.each.add_chosen.Goals as goal

pub xor_choose-requires-clause-whole : goal.xor_choose-requires-clause-whole
xor_choose-requires-clause-whole c = rw c.requires.long c.requires.whole

pub xor_choose-requires-clause-in_vector : goal.xor_choose-requires-clause-in_vector
xor_choose-requires-clause-in_vector c =
    rw (take_rest c.args.vector.now c.args.first, c.requires.long)
    (omega (arith, c.requires.eights, c.requires.reach, length-drop c.args.first c.args.vector.now))

pub returns : goal.returns
returns c =
    rw c.requires.long at (rw (take_rest c.args.vector.now c.args.first) at c.xor_choose.ensures)
    ∙ ap (λ vs. xor_bytes c.args.sum.now (xor_all c.args.size vs))
    (chosen_behind c.args.first (all_pieces c.args.size c.args.blocks.now) c.args.vector.now)
