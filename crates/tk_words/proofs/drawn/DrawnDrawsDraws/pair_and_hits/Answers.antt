use Rattle.std.proofs.Common.{ap, ◌∙◌}
use Rattle.tk_words.specs.Words.{pair_of, hits_of, cell_pair, cell_hits}
use Rattle.tk_words.proofs.drawn.DrawnDrawsDraws.pair_and_hits.Goals as goal

pub returns-clause-pair : goal.returns-clause-pair
unfolding pair_of
returns-clause-pair c =
    c.cell_pair.ensures.pair
    ∙ ap (cell_pair c.args.self.now.shape) c.keyed_cell-cell.ensures.cell

pub returns-clause-hits : goal.returns-clause-hits
unfolding hits_of
returns-clause-hits c =
    c.cell_hits.ensures.hits
    ∙ ap (cell_hits c.args.self.now.shape) c.keyed_cell-cell.ensures.cell
