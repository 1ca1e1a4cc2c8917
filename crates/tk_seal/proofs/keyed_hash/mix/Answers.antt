use Rattle.std.proofs.Common.{bit_xor, get_or, arith}
use Rattle.std.proofs.lemmas.List.{get_or_default}
use Rattle.std.proofs.lemmas.List.Edits.{map_over_more}
use Rattle.tk_seal.proofs.keyed_hash.mix.Goals as goal

pub loop-byte-preserved : goal.loop-byte-preserved
loop-byte-preserved c =
    let byte = get_or c.loop-byte.bytes c.loop-byte.byte-index 0 in
    map_over_more (λ k. bit_xor k c.args.with) c.args.bytes.now c.loop-byte.bytes c.loop-byte.byte-index byte (omega arith) c.loop-byte.invariant
    (get_or_default c.loop-byte.bytes c.loop-byte.byte-index 0 byte (omega arith))
