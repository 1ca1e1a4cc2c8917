use Rattle.tk_order.proofs.Moves.{begins}
use Rattle.tk_order.proofs.blank.Blank.new.Goals as goal

pub of_words-requires : goal.of_words-requires
of_words-requires c = begins c.args.shape.now
