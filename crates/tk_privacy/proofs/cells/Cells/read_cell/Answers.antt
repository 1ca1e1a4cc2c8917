-- The cell lies among the read cells.
use Rattle.tk_shape.specs.Lengths.{turn_count, read_cell_len}
use Rattle.tk_words.specs.CellLaws.{place_within, length-read_part}
use Rattle.tk_privacy.proofs.cells.Cells.read_cell.Goals as goal

pub piece-requires : goal.piece-requires
piece-requires c =
    let cells = c.args.self.now in
    let shape = cells.shape.now in
    rw (
      c.place.ensures,
      c.read_cell_len-size.ensures,
      c.read_part-part.ensures,
      length-read_part shape cells.bytes.now cells.whole,
    )
    (place_within c.args.turn c.args.client (turn_count shape) shape.clients (read_cell_len shape)
    c.requires.turn_in c.requires.client_in)
