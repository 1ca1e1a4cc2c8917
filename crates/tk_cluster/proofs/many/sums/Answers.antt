-- A vector has a bit for each block of an epoch.
use Rattle.std.proofs.Common.{arith, ap, length}
use Rattle.tk_cluster.proofs.many.sums.Goals as goal
use Rattle.tk_shape.proofs.Offers.{vector_bits}

pub answer_all-requires-clause-vectors : goal.answer_all-requires-clause-vectors
answer_all-requires-clause-vectors g c κs within k d low =
    let counted = c.args.epoch.now.counted in
    let same = ap (λ b. length b.blocks) c.blocks-2.ensures in
    let long = c.requires.vectors k d low in
    omega (arith, counted, vector_bits c.args.epoch.now.shape, long, same)
