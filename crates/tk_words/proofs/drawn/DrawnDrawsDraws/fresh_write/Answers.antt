use Rattle.std.proofs.Common.{ap, ◌∙◌, List, ℕ}
use Rattle.tk_words.specs.Words.{fresh_write, cell_pair, cell_hits, cell_block}
use Rattle.tk_words.proofs.drawn.DrawnDrawsDraws.fresh_write.Goals as goal

pub returns-clause-first : goal.returns-clause-first
unfolding fresh_write
returns-clause-first c =
    ap (λ p. p.0) c.cell_pair.ensures.pair ∙ ap (λ (cell : List ℕ). (cell_pair c.args.self.now.shape cell).0) c.write_cell-cell.ensures.cell

pub returns-clause-second : goal.returns-clause-second
unfolding fresh_write
returns-clause-second c =
    ap (λ p. p.1) c.cell_pair.ensures.pair ∙ ap (λ (cell : List ℕ). (cell_pair c.args.self.now.shape cell).1) c.write_cell-cell.ensures.cell

pub returns-clause-hits : goal.returns-clause-hits
unfolding fresh_write
returns-clause-hits c = c.cell_hits.ensures.hits ∙ ap (cell_hits c.args.self.now.shape) c.write_cell-cell.ensures.cell

pub returns-clause-block : goal.returns-clause-block
unfolding fresh_write
returns-clause-block c =
    c.copy_from_slice.ensures.after ∙ c.cell_block.ensures.block ∙ ap (cell_block c.args.self.now.shape) c.write_cell-cell.ensures.cell
