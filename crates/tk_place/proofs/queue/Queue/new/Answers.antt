use Rattle.std.proofs.Common.{arith}
use Rattle.tk_place.proofs.Stamps.{queue_begun, zeros_below}
use Rattle.tk_place.proofs.queue.Queue.new.Goals as goal

pub invariant_of-result : goal.invariant_of-result
invariant_of-result c =
    queue_begun _ _ _ _ (omega (arith, c.ranges.buckets.fits, c.in_ok-vec-2.ensures.len))
    (omega (arith, c.in_ok-vec.field-0.ok, c.in_ok-vec.ensures.len, c.in_ok-vec-2.ensures.len))
    (omega (arith, c.in_ok-vec-2.field-0.ok))
    (zeros_below _ c.args.buckets 1 (c.in_ok-vec-2.ensures.items_if_clones_equal (λ y same. same))
    (omega arith))
