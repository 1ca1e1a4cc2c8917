use Rattle.std.proofs.Common.{◌≡◌, ◌+◌, ◌*◌, ◌%◌, length, arith}
use Rattle.std.proofs.lemmas.List.FromFn.{fill_by_all}
use Rattle.tk_words.specs.Pieces.{word_at_byte}
use Rattle.tk_words.proofs.cells.cell_hits.Goals as goal

pub returns-clause-hits : goal.returns-clause-hits
returns-clause-hits c =
    let n = c.args.shape.now.hits in
    let full : length c.hits.out ≡ n = omega arith in
    fill_by_all (λ k. word_at_byte (8 + 4 * k) c.args.cell.now % c.args.shape.now.filter_bits) c.hits.out n 0 full
    (λ k h. c.hits.invariant k (omega arith))
