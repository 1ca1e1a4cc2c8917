use Rattle.std.proofs.Common.{◌≡◌, ◌∙◌, ◌<◌, length, replicate, sym, arith, rules}
use Rattle.std.specs.Slice.Iter.{chunks_exact_rest, chunks_exact_size}
use Rattle.tk_bits.proofs.Joining.{part_added, no_part_left, added_to_zeros}
use Rattle.tk_bits.proofs.shares.join.Goals as goal

pub loop-part-init : goal.loop-part-init
loop-part-init c =
    let size = length c.args.out.now in
    let zeros : c.fill.new.self ≡ replicate size 0 = search rules in
    let all : chunks_exact_rest c.into_iter-part-iterator.result ≡ c.args.parts.now = search rules in
    let size_is : chunks_exact_size c.into_iter-part-iterator.result ≡ size = search rules in
    (size_is, rw (zeros, all) (added_to_zeros size c.args.parts.now))

pub loop-part-preserved : goal.loop-part-preserved
loop-part-preserved c =
    let (size_is, (split, long), _) = c.in-Some.ensures.steps in
    let sum = rw split at c.loop-part.invariant.1 in (
      size_is ∙ c.loop-part.invariant.0,
      rw c.xor_into.ensures (part_added _ _ _ _ c.requires.some (long ∙ c.loop-part.invariant.0) ∙ sum),
    )

pub returns : goal.returns
returns c =
    let (_, (less, _), _) = c.in-None.ensures.steps in
    let short : length (chunks_exact_rest c.loop-part.part-iterator) < length c.args.out.now = omega (arith, less, c.loop-part.invariant.0) in
    let long : length c.loop-part.out ≡ length c.args.out.now = c.loop-part.auto.out ∙ c.fill.ensures.len in
    sym (no_part_left _ _ _ long short) ∙ c.loop-part.invariant.1
