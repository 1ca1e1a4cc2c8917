-- What the proofs of other crates may cite.

-- a book in format 2 serves the shape in format 2, and gives the same words
pub use Rattle.tk_words.proofs.LiftedWords.{length-lifted_tape, lifted-words}
