-- What the proofs of other crates may cite.
pub use Rattle.tk_place.proofs.Blocked.{nothing_fits}
pub use Rattle.tk_place.proofs.Fits.{fit_by_placement}
pub use Rattle.tk_place.proofs.Moves.{placed_along}
pub use Rattle.tk_place.proofs.Paths.{path_to_end}
