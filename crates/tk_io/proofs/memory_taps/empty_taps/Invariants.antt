-- There are as many empty taps as turns of the loop.
use Rattle.std.proofs.Common.{◌≡◌, [], replicate}
use Rattle.tk_io.proofs.memory_taps.empty_taps.Given as goal

abbrev pub invariant-loop : goal.invariant-loop
invariant-loop l = l.taps.items ≡ replicate l.counter []
