-- What the proofs of other crates may cite.
pub use Rattle.tk_seal.proofs.PlainForms.{length-plain}
pub use Rattle.tk_seal.proofs.SealLaws.{opened_with-sealed, opened_with-is}
pub use Rattle.tk_seal.proofs.SealLaws.{closed_by_mark, opened_by_reading, closed_by_reading}
pub use Rattle.tk_seal.proofs.SealLaws.{IfNone_then, marks_differ, marks_agree}
