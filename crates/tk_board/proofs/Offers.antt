-- What the proofs of other crates may cite.

-- How what is known goes on from call to call.
pub use Rattle.tk_board.proofs.Knowing.{stays}
-- Which values may stand where in a list.
pub use Rattle.tk_board.proofs.Fitting.{fit_snoc}
