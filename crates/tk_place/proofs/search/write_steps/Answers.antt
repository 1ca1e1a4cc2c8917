use Rattle.std.proofs.Common.{arith}
use Rattle.tk_place.proofs.search.write_steps.Goals as goal

pub overflow_add-count : goal.overflow_add-count
overflow_add-count c =
    omega (arith, c.loop-link.invariant.short, c.loop-link.invariant.within, c.requires.end, c.bucket.ensures.few, c.bucket.ensures.small)
