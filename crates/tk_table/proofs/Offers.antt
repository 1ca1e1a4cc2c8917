-- What the proofs of other crates may cite.
pub use Rattle.tk_table.proofs.Ascending.{ascend-last, ascend-above, ascend-lower, retained-ascend}
pub use Rattle.tk_table.proofs.InWindow.{retained-in_window}
pub use Rattle.tk_table.proofs.RetainedEach.{retained-each}
pub use Rattle.tk_table.proofs.LaidOut.{layout-laid_out}
pub use Rattle.tk_table.proofs.AsWritten.{layout-as_written, entry-record}
-- Each entry of a table is a record's.
pub use Rattle.tk_table.proofs.BucketBytes.{layout-read_back, layout-as_read}
pub use Rattle.tk_table.proofs.OneEntry.{one_among, one_slot_is_sound}
-- The writes of an order are in order.
pub use Rattle.tk_table.proofs.Ordering.{order-writes}
-- The positions of the writes in the window: none, and with one more write.
pub use Rattle.tk_table.proofs.Pushes.{pushes-none, pushes-more}
-- A slot of a bucket is one of the row of all slots.
pub use Rattle.tk_table.proofs.Spelled.{slot_in_row, length-slots_spelled, slot_spelled}
-- A row of slots as it is spelled, and each slot of it.
-- Positions that ascend from one on are no lower.
pub use Rattle.tk_table.proofs.Learning.{ascending_above}
