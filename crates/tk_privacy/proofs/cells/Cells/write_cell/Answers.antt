-- The cell lies among the write cells.
use Rattle.tk_shape.specs.Lengths.{turn_count, cell_len}
use Rattle.tk_words.specs.CellLaws.{place_within, length-write_part}
use Rattle.tk_privacy.proofs.cells.Cells.write_cell.Goals as goal

pub piece-requires : goal.piece-requires
piece-requires c =
    let cells = c.args.self.now in
    let shape = cells.shape.now in
    rw (
      c.place.ensures,
      c.cell_len-size.ensures,
      c.write_part-part.ensures,
      length-write_part shape cells.bytes.now cells.whole,
    )
    (place_within c.args.turn c.args.client (turn_count shape) shape.clients (cell_len shape)
    c.requires.turn_in c.requires.client_in)
