-- What the proofs of other crates may cite.

-- A shape is given by its format and its numbers.
pub use Rattle.tk_shape.proofs.OneShape.{one_shape}
-- Numbers that break no limit are in range, and make a shape; a shape's numbers break none.
pub use Rattle.tk_shape.proofs.InRange.{in_range, shape_of}
pub use Rattle.tk_shape.proofs.NoneBroken.{none_broken}
-- A vector has a bit for each bucket.
pub use Rattle.tk_shape.proofs.Vectors.{vector_bits}
-- Numbers within limits.
pub use Rattle.tk_shape.proofs.Between.{between-parts, between-from}
