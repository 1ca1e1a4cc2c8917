-- What the proofs of other crates may cite.

-- A window that goes on is the window of all.
pub use Rattle.tk_bloom.proofs.Cutting.{window-append}
-- What is shown is what a push of the window has.
pub use Rattle.tk_bloom.proofs.Showing.{is_shown-positions_of}
