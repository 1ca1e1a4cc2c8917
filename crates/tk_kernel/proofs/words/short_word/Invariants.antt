use Rattle.std.proofs.Common.{◌≡◌, length, take}
use Rattle.tk_kernel.proofs.words.short_word.Given as goal

abbrev pub invariant-loop-i : goal.invariant-loop-i
invariant-loop-i l = (length l.eight ≡ 8) × (take l.i l.eight ≡ take l.i l.bytes)
