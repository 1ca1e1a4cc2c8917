-- What the proofs of other crates may cite.

-- A read and a reply are read from their spelling.
pub use Rattle.tk_frames.proofs.ReadLaws.{read-again, read_passes, read_found, length-read_frame}
pub use Rattle.tk_frames.proofs.Frames.{reply-again, write_passes, write_found, write-again, length-write_frame}
-- What passes the checks of a frame that names who asks, and what is read from its spelling.
pub use Rattle.tk_frames.proofs.Asked.{AskerFits, asker-again, StandAsked, asked_stands, asked_passes}
-- How many turns a shape has at most.
pub use Rattle.tk_frames.proofs.Bounds.{turn_count_small}
-- What stands before a mark.
pub use Rattle.tk_frames.proofs.Marks.{before-none, before-settled, before-marked, before-unmarked}
-- The writes of entries, with one more or with others after them.
pub use Rattle.tk_frames.proofs.Records.{record_of, records-append, records-write, records-mark}
-- How many marks stand among entries, and how many writes.
pub use Rattle.tk_frames.proofs.MarkCounts.{marks-cons, marks-append, marks-push, marks-write, marks-mark}
pub use Rattle.tk_frames.proofs.MarkCounts.{length-writes_and_marks, due-next}
-- Entries in order: none, one more, a front, the rest, and each one.
pub use Rattle.tk_frames.proofs.InOrderLaws.{order-none, order-push, order-front, order-rest, order-entry}
pub use Rattle.tk_frames.proofs.InOrderLaws.{from-push, from-front, from-entry}
-- How many marks an order has, and the write or mark that may stand next in it.
pub use Rattle.tk_frames.proofs.NextLaws.{marks-most, next-write, next-mark}
-- Which marks stand in an order, where, and what stands before them, when more entries come.
pub use Rattle.tk_frames.proofs.EpochLaws.{has-mark, has-no_mark, before-more, before-mark}
pub use Rattle.tk_frames.proofs.EpochLaws.{mark_position-more, mark_position-mark, mark_position-none}
-- What each element of a list has, and what is in a list.
pub use Rattle.tk_frames.proofs.Each.{each-both, each-filter, each-push, each-split}
pub use Rattle.tk_frames.proofs.Members.{in_from_contains, contains_from_in, all_in, all-at, each-in}
pub use Rattle.tk_frames.proofs.Members.{in-append, in_front, in_back, in_map, from_map}
pub use Rattle.tk_frames.proofs.Members.{in_filter, from_filter, in_filter_map, from_filter_map}
pub use Rattle.tk_frames.proofs.Members.{in_flat_map, from_flat_map, nothing_in}
-- Bytes, and parts of them.
pub use Rattle.tk_frames.proofs.BigEndian.{IsBytes, IsBytes-drop, IsBytes-take, length-be32s}
-- Numbers joined from their bytes, and again their bytes.
pub use Rattle.tk_frames.proofs.BigEndian.{number-join, long-join, numbers-join, length-numbers}
pub use Rattle.tk_frames.proofs.BigEndian.{numbers-again, length-be32s}

-- What passes the checks of a write and of a read, what is found in their spelling, and how long it is.
