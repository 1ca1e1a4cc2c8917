use Rattle.std.proofs.Common.{ap, ◌∙◌}
use Rattle.tk_words.specs.Words.{pair_of, cell_pair}
use Rattle.tk_words.proofs.drawn.DrawnDrawsDraws.pair.Goals as goal

pub returns-clause-pair : goal.returns-clause-pair
unfolding pair_of
returns-clause-pair c = c.cell_pair.ensures.pair ∙ ap (cell_pair c.args.self.now.shape) c.keyed_cell.ensures.cell
