-- The servers of the board reply.
use Rattle.std.proofs.Common.{◌∙◌, ap, sym, subst}
use Rattle.std.specs.Prelude.{All}
use Rattle.tk_replica.specs.Replica.{StandsFor}
use Rattle.board.specs.Boards.{BoardView}
use Rattle.board.proofs.board.Board.replies.Goals as goal

pub returns-clause-replies : goal.returns-clause-replies
returns-clause-replies c = λ shape E stand.
    let seen = ap (λ (b : BoardView). b.servers) c.self.view_is in
    c.answers.ensures.replies shape E
    (subst (All (StandsFor shape E)) (sym (c.as_slice.ensures.value ∙ seen)) stand)
