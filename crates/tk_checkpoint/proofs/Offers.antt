-- What the proofs of other crates may cite.
-- An order fits what a checkpoint holds, and what fits can be stored.
pub use Rattle.tk_checkpoint.proofs.Ranges.{order-fitting, fitting-storable}
