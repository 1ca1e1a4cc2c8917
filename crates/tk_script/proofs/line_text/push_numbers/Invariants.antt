-- The word and the numbers so far stand after what was there.
use Rattle.std.proofs.Common.{◌≡◌, ◌++◌, take}
use Rattle.tk_script.specs.Printing.{number_fields}
use Rattle.tk_script.proofs.line_text.push_numbers.Given as goal

abbrev pub invariant-loop-number : goal.invariant-loop-number
invariant-loop-number l =
    l.out.items ≡ (l.fn.out.items ++ l.word) ++ number_fields (take l.number-index l.numbers)
