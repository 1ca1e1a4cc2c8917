use Rattle.std.proofs.Common.{ap, ◌∙◌}
use Rattle.tk_words.specs.Words.{hits_of, cell_hits}
use Rattle.tk_words.proofs.drawn.DrawnDrawsDraws.hits.Goals as goal

pub returns-clause-hits : goal.returns-clause-hits
unfolding hits_of
returns-clause-hits c = c.cell_hits.ensures.hits ∙ ap (cell_hits c.args.self.now.shape) c.keyed_cell.ensures.cell
