use Rattle.std.proofs.lemmas.List.{take_rest}
use Rattle.tk_shape.specs.Lengths.{turn_count, read_cell_len}
use Rattle.tk_words.specs.CellLaws.{place_within, length-read_part}
use Rattle.tk_words.proofs.drawn.DrawnDraws.read_cell.Goals as goal

pub piece-requires : goal.piece-requires
piece-requires c =
    let draws = c.args.self.now in
    rw (c.place.ensures, c.read_cell_len-size.ensures, c.read_cells_len.ensures, c.write_cells_len.ensures, c.as_bytes.ensures, take_rest, length-read_part draws.shape draws.tape draws.whole)
    (place_within c.args.turn c.args.client (turn_count draws.shape) draws.shape.clients (read_cell_len draws.shape) c.requires.turn_in c.requires.client_in)
