-- What the proofs of other crates may cite.

-- What may stand next after the entries of a state may come next to it.
pub use Rattle.tk_replica.proofs.Standing.{entry-next, stands-released}
-- A state without its first epochs stands for the same entries.
-- The epoch of the last mark among the first entries is that in a longer list, and the other way
-- round.
pub use Rattle.tk_replica.proofs.LastMarks.{epoch-whole, epoch-front, position-same}
-- A mark that stands in an order stays where it is in a longer one.
-- A vector has a bit for each bucket.
pub use Rattle.tk_shape.proofs.Offers.{vector_bits}
-- A reply over the epoch that a read names is the one that is due to the bytes of the read.
pub use Rattle.tk_replica.proofs.Replying.{over-epoch, for-spelled}
-- The vectors of one more read come after those of the others.
pub use Rattle.tk_replica.proofs.Paired.{both-push, frames-over, two-for-each}

-- Two sums for each asker give the frames over an epoch.
