-- What the proofs of other crates may cite.

-- Beginnings of one list.
pub use Rattle.tk_lists.proofs.Prefixes.{prefix_self, prefix_trans, prefix_shorter, prefix_whole}
pub use Rattle.tk_lists.proofs.Prefixes.{prefix_length, prefix_get}
-- One more number of a range.
pub use Rattle.tk_lists.proofs.Ranges.{range-more, numbers-more, flat_map-range_more}
-- One more element of a list.
pub use Rattle.tk_lists.proofs.Ends.{front-at, last-at, last-got, length-next}
-- Elements changed one after the other.
pub use Rattle.tk_lists.proofs.Changes.{ChangedUpTo, changed-none, changed-next}
-- What is found, and what an option is made from.
pub use Rattle.tk_lists.proofs.Found.{found-passes, option_map-from}
