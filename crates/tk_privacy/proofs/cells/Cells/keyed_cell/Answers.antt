-- The cell lies among those of the numbers.
use Rattle.tk_shape.specs.Lengths.{turn_count, cell_len}
use Rattle.tk_words.specs.CellLaws.{place_within, length-keyed_part}
use Rattle.tk_privacy.proofs.cells.Cells.keyed_cell.Goals as goal

pub piece-requires : goal.piece-requires
piece-requires c =
    let cells = c.args.self.now in
    let shape = cells.shape.now in
    rw (
      c.place.ensures,
      c.turns.ensures.count,
      c.cell_len-size.ensures,
      c.keyed_part-part.ensures,
      length-keyed_part shape cells.bytes.now cells.whole,
    )
    (place_within c.args.log c.args.number shape.logs (turn_count shape) (cell_len shape)
    c.requires.log_in c.requires.number_in)
