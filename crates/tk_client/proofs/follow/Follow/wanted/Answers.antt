-- Of a log whose numbers are all settled nothing is wanted.
use Rattle.std.proofs.Common.{sym, ◌≤◌, arith}
use Rattle.tk_shape.specs.Lengths.{turn_count}
use Rattle.tk_words.specs.Words.{words_of}
use Rattle.tk_client.specs.Asked.{shown_by}
use Rattle.tk_client.specs.Reader.{next_of}
use Rattle.tk_client.proofs.FollowLaws.{wanted-settled, next-by-view, next-anew}
use Rattle.tk_client.proofs.VainLaws.{settled-shows_nothing}
use Rattle.tk_client.specs.Searching.{follow_anew}
use Rattle.tk_client.proofs.follow.Follow.wanted.Goals as goal

pub returns-then-next-turns-clause-wanted : goal.returns-then-next-turns-clause-wanted
returns-then-next-turns-clause-wanted g c =
    let shape = c.args.sight.now.shape.now in
    let book = g.D.Draws.book c.args.sight.now.draws.now in
    let shown = shown_by c.args.sight.now.filter.now (words_of shape book) in
    let f = c.args.self.now in
    let was = c.self.inside in
    let same = next-by-view was.log was.got.items was.tried f c.self.view_is in
    let settled : turn_count shape ≤ next_of f =
    omega (
      arith,
      same,
      c.if-next-turns.true,
      c.turns.ensures.count,
      c.len-next.ensures,
      c.self.inside.got.ok.0,
    )
    in
    sym (wanted-settled shape shown c.args.anew f settled)

pub returns-then-next-turns-clause-vain : goal.returns-then-next-turns-clause-vain
returns-then-next-turns-clause-vain g c =
    let shape = c.args.sight.now.shape.now in
    let f = c.args.self.now in
    let known = follow_anew c.args.anew f in
    let was = c.self.inside in
    let same = next-by-view was.log was.got.items was.tried f c.self.view_is in
    let settled : turn_count shape ≤ next_of known =
    omega (
      arith,
      same,
      next-anew c.args.anew f,
      c.if-next-turns.true,
      c.turns.ensures.count,
      c.len-next.ensures,
      c.self.inside.got.ok.0,
    )
    in
    settled-shows_nothing (turn_count shape) shape.ahead c.args.sight.now.filter.now
    c.args.positions.now (next_of known) known.tried settled
