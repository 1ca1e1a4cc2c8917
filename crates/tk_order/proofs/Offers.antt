-- What the proofs of other crates may cite.

-- Beginnings of one list.
pub use Rattle.tk_lists.proofs.Offers.{prefix_self, prefix_trans, prefix_length, prefix_get}
-- The entries under a number, after more entries.
pub use Rattle.tk_order.proofs.Legal.{of-append, of_added, of_else, of_prefix, of_between}
-- The entries under a number, from the first on, and the numbers that entries have.
pub use Rattle.tk_order.proofs.Legal.{of_here, of_other, number_low, legal_first, legal_after, ordered_few}
-- Which lists may be an order, and how many marks and writes they have.
pub use Rattle.tk_order.proofs.Turns.{marks_under_zero, writes_most, next_due}
-- How the list of a seat grows from call to call.
pub use Rattle.tk_order.proofs.Growing.{sees_self, sees_on, puts_on, may_still}
-- The seats of a new order, taken from the last one on.
pub use Rattle.tk_order.proofs.Opened.{last_opened}
