-- What the proofs of other crates may cite.

-- A set stands for its mark in each longer order, and so do all that a publisher has shown.
pub use Rattle.tk_cluster.proofs.Standing.{stands-more, shows-more}
-- Whose the passes are, which no call changes: all of them, each once, stay so.
pub use Rattle.tk_cluster.proofs.Staying.{stays_self, each_self, met_stays, once_stays, opened_once}
-- The epochs of a closed cluster: a list for each client, of passes that stand by number.
pub use Rattle.tk_cluster.proofs.Ending.{ends_counted, ByNumber}
-- Reads that a set answers together: each vector is as long as the shape says, there are two sums
-- for each asker, and the sums over the blocks of the set's epoch make the replies.
pub use Rattle.tk_cluster.proofs.Together.{reads-long, two-sums, replies-due}
