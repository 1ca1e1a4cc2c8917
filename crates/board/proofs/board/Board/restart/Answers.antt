-- The servers of the board are made anew.
use Rattle.std.proofs.Common.{◌∙◌, ap, sym, subst}
use Rattle.std.specs.Prelude.{All}
use Rattle.tk_shape.specs.declared.shape.Shape.{Shape}
use Rattle.tk_replica.specs.Replica.{StandsFor}
use Rattle.board.specs.Boards.{BoardView}
use Rattle.board.proofs.board.Board.restart.Goals as goal

pub returns-clause-stand : goal.returns-clause-stand
returns-clause-stand c = λ E stand ends.
    let seen = ap (λ (b : BoardView). b.servers) c.self.view_is in
    let shape = ap (λ (b : BoardView). b.shape) c.self.view_is in
    let old = c.as_slice.result.now in
    let new = c.in_ok-servers.servers.items in
    subst (λ (s : Shape). All (StandsFor s E) new) shape
    (c.in_ok-servers.ensures.stand E
    (subst (λ (s : Shape). All (StandsFor s E) old) (sym shape)
    (subst (All (StandsFor c.args.self.now.shape E)) (sym (c.as_slice.ensures.value ∙ seen)) stand))
    ends)
