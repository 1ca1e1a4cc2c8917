-- What the proofs of other crates may cite.
pub use Rattle.tk_answer.proofs.Runs.{run_of_slice, bytes-in_run, blocks-in_run, AllSized-take, AllSized-drop}
-- How many bytes a run has, and how many blocks.
-- Rows are as long as the vectors whose bytes they have.
pub use Rattle.tk_answer.proofs.ManySums.{rows_reach}

-- Parts of lists of one length.
