use Rattle.tk_board.proofs.Moves.{begins}
use Rattle.tk_board.proofs.tally.Tally.new.Goals as goal

pub vacant-requires : goal.vacant-requires
vacant-requires g c = begins
