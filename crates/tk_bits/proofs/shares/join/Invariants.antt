-- The parts that are left are still to be added.
use Rattle.std.proofs.Common.{◌≡◌, length}
use Rattle.std.specs.Slice.Iter.{chunks_exact_rest, chunks_exact_size}
use Rattle.tk_kernel.specs.Pieces.{all_pieces}
use Rattle.tk_kernel.specs.Xor.{xor_bytes, xor_all}
use Rattle.tk_bits.proofs.shares.join.Given as goal

abbrev pub invariant-loop-part : goal.invariant-loop-part
invariant-loop-part l =
    let size = length l.fn.out in
    (chunks_exact_size l.part-iterator ≡ size)
    × (xor_bytes l.out (xor_all size (all_pieces size (chunks_exact_rest l.part-iterator))) ≡ xor_all size (all_pieces size l.parts))
