use Rattle.tk_shape.specs.Lengths.{turn_count, cell_len}
use Rattle.tk_words.specs.CellLaws.{place_within, length-write_part}
use Rattle.tk_words.proofs.drawn.DrawnDraws.write_cell.Goals as goal

pub piece-requires : goal.piece-requires
piece-requires c =
    let draws = c.args.self.now in
    rw (c.place.ensures, c.cell_len-size.ensures, c.write_cells_len.ensures, c.as_bytes.ensures, length-write_part draws.shape draws.tape draws.whole)
    (place_within c.args.turn c.args.client (turn_count draws.shape) draws.shape.clients (cell_len draws.shape) c.requires.turn_in c.requires.client_in)
