-- A vector has a bit for each block of an epoch.
use Rattle.std.proofs.Common.{arith}
use Rattle.tk_shape.proofs.Offers.{vector_bits}
use Rattle.tk_replica.proofs.epoch.Epoch.sum.Goals as goal

pub answer-requires-clause-count : goal.answer-requires-clause-count
answer-requires-clause-count c =
    let counted = c.args.self.now.counted in
    omega (arith, counted, vector_bits c.args.self.now.shape, c.requires)
