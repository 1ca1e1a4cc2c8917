-- As many bytes as turns of the loop.
use Rattle.std.proofs.Common.{◌≡◌, ◌++◌, replicate}
use Rattle.tk_script.proofs.piece.append_repeats.Given as goal

abbrev pub invariant-repeats : goal.invariant-repeats
invariant-repeats l = l.kept.items ≡ l.fn.kept.items ++ replicate l.counter l.byte
