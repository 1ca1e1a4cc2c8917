-- The earlier of what the two blocks give is the earliest that both give.
use Rattle.std.proofs.Common.{◌∙◌}
use Rattle.tk_words.specs.Words.{words_of, opened}
use Rattle.tk_client.proofs.TakingLaws.{text_of_two}
use Rattle.tk_client.proofs.wanted.text_in_blocks.Goals as goal

pub returns : goal.returns
returns g c =
    let shape = c.args.shape.now in
    let wanted = c.args.wanted in
    let words = words_of shape (g.D.Draws.book c.args.draws.now) in
    record {
      text =
          c.text_of.ensures
          ∙ text_of_two shape wanted.pair (opened words wanted.log wanted.number)
          c.args.first.now c.args.second.now c.in_ok-first.first c.in_ok-second.second
          c.earlier.result c.in_ok-first.ensures.earliest c.in_ok-second.ensures.earliest
          c.earlier.ensures;
    }
