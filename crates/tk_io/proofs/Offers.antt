-- What the proofs of other crates may cite.

-- What is taken of an object in two calls, or in none.
pub use Rattle.tk_io.proofs.Contents.{before_taking-append, before_taking-nothing, taken_more}
-- What comes to one tap in two calls, and fronts of it.
pub use Rattle.tk_io.proofs.Contents.{gained-twice, gained-nothing}
pub use Rattle.tk_io.proofs.Tapping.{front-of_all, front-of_first, front-of_second}
-- What comes to all taps in two calls.
pub use Rattle.tk_io.proofs.Tapping.{taps-twice, fronts-of_all, taps-same}
-- What taps have where giving ended early.
pub use Rattle.tk_io.proofs.Fronts.{fronts-here, fronts-none, kept-here}
-- What holds in any case, of what a call gave.
pub use Rattle.tk_io.proofs.Results.{on_err, always}
