use Rattle.std.proofs.lemmas.List.{take_rest}
use Rattle.tk_shape.specs.Lengths.{turn_count, cell_len}
use Rattle.tk_words.specs.CellLaws.{place_within, length-keyed_part}
use Rattle.tk_words.proofs.drawn.DrawnDraws.keyed_cell.Goals as goal

pub piece-requires : goal.piece-requires
piece-requires c =
    let draws = c.args.self.now in
    rw (c.place.ensures, c.turns.ensures.count, c.cell_len-size.ensures, c.write_cells_len.ensures, c.read_cells_len.ensures, c.as_bytes.ensures, take_rest, length-keyed_part draws.shape draws.tape draws.whole)
    (place_within c.args.log c.args.number draws.shape.logs (turn_count draws.shape) (cell_len draws.shape) c.requires.log_in c.requires.number_in)
