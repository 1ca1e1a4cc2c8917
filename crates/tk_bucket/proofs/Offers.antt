-- What the proofs of other crates may cite.

-- A bucket of the table that bytes stand for, and a slot of it.
pub use Rattle.tk_bucket.proofs.Tables.{bucket_at-table_in, slot_at-table_in, blocks_of-table_in, bucket_ends}
-- Sizes that pass a test are those of a table.
pub use Rattle.tk_bucket.proofs.InSizes.{in_sizes}
-- The blocks of the table that bytes stand for.
-- Where a bucket ends in its table.
-- One of lists of one length, and pieces of the front of some bytes.
pub use Rattle.tk_bucket.proofs.Rows.{AllSized-get}
pub use Rattle.tk_bucket.proofs.Filled.{pieces-take}
