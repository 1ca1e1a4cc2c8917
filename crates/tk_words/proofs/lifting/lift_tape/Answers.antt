use Rattle.std.proofs.Common.{ap, ◌∙◌, length}
use Rattle.tk_words.proofs.LiftedWords.{length-lifted_tape}
use Rattle.tk_words.proofs.lifting.lift_tape.Goals as goal

pub returns-in-Ok-clause-whole : goal.returns-in-Ok-clause-whole
returns-in-Ok-clause-whole c =
    ap length (c.of_bytes.ensures ∙ c.in-Ok.ensures)
    ∙ length-lifted_tape c.args.shape.now c.args.tape.now c.requires
