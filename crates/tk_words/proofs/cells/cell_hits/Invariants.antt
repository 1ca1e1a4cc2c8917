use Rattle.std.proofs.Common.{◌≡◌, ℕ, ◌+◌, ◌*◌, ◌%◌, ◌<◌, get_or}
use Rattle.tk_words.specs.Pieces.{word_at_byte}
use Rattle.tk_words.proofs.cells.cell_hits.Given as goal

abbrev pub invariant-hits : goal.invariant-hits
invariant-hits l = (k : ℕ) → k < l.i → get_or l.out k 0 ≡ word_at_byte (8 + 4 * k) l.cell % l.shape.filter_bits
