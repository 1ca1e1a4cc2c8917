-- What the proofs of other crates may cite.
pub use Rattle.tk_bits.proofs.Vectors.{length-unit_vector}
pub use Rattle.tk_bits.proofs.Wanted.{length-last_share, unit-chosen}
pub use Rattle.tk_bits.proofs.Sums.{length-chosen_sum, chosen_sum-joined}
pub use Rattle.tk_bits.proofs.Seeded.{answers_join, vectors-shares, vector-at, seed-at}
