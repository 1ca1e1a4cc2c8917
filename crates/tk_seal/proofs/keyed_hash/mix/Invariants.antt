use Rattle.std.proofs.Common.{◌≡◌, ◌++◌, take, drop, map, bit_xor}
use Rattle.tk_seal.proofs.keyed_hash.mix.Given as goal

abbrev pub invariant-loop-byte : goal.invariant-loop-byte
invariant-loop-byte l = l.bytes ≡ map (λ k. bit_xor k l.with) (take l.byte-index l.fn.bytes) ++ drop l.byte-index l.fn.bytes
