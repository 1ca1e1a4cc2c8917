-- The ledger of the whole history has counted them.
use Rattle.tk_words.specs.Words.{words_of}
use Rattle.tk_report.specs.Entries.{entries}
use Rattle.tk_report.proofs.displacement.displaced.Goals as goal

pub returns : goal.returns
returns g c =
    let S = c.args.script.now in
    let words = words_of S.shape (g.D.Draws.book c.args.draws.now) in
    c.displaced.ensures S.shape (entries S words c.args.history.now) c.in_ok-fold.ensures.ledger
