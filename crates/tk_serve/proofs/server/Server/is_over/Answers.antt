-- All have written where the turn is the last one's next, and all have read where as many reads of each came.
use Rattle.std.proofs.Common.{◌==◌, ◌∙◌, ap, sym}
use Rattle.std.specs.List.{list_all}
use Rattle.tk_serve.specs.Desks.{DeskView}
use Rattle.tk_serve.proofs.OverLaws.{over-by, over-turn, over-read}
use Rattle.tk_serve.proofs.server.Server.is_over.Goals as goal

pub returns-then-self-turns : goal.returns-then-self-turns
returns-then-self-turns c = λ shape seats stands. (
  λ is. absurd (cc (is)),
  λ over. absurd (c.if-self-turns.true
      (over-turn shape seats c.args.self.now stands over ∙ sym c.turns-turns.ensures.count)),
)

pub returns : goal.returns
returns c = λ shape seats stands.
    let s = c.args.self.now in
    let read = c.have_read.ensures
    ∙ ap (λ n. list_all (λ (d : DeskView). d.asked == n) s.desks.items) c.turns-turns.ensures.count
    in (
      λ is. over-by shape seats s stands (c.if-self-turns.false ∙ c.turns-turns.ensures.count) (sym read ∙ is),
      λ over. read ∙ over-read shape seats s stands over,
    )
