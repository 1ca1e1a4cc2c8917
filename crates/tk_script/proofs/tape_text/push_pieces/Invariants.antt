-- What is written, and the lines of what is left, are the whole.
use Rattle.std.proofs.Common.{◌≡◌, ◌++◌, length}
use Rattle.tk_script.specs.Printing.{text_of, lines_of_pieces}
use Rattle.tk_script.proofs.tape_text.push_pieces.Given as goal

abbrev pub invariant-pieces : goal.invariant-pieces
invariant-pieces l =
    l.out.items ++ text_of (lines_of_pieces l.rest)
    ≡ l.fn.out.items ++ text_of (lines_of_pieces l.tape)

abbrev pub decreases-pieces : goal.decreases-pieces
decreases-pieces l = length l.rest
