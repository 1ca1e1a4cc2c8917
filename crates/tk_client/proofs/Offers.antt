-- What the proofs of other crates may cite.
pub use Rattle.tk_client.proofs.InRangeLaws.{asked-in_range, pair-in_range, fresh-whole}
pub use Rattle.tk_client.proofs.InRangeLaws.{frame-told, length-asked, length-completed}
pub use Rattle.tk_client.proofs.AskingLaws.{told-alike}
pub use Rattle.tk_client.proofs.RepliesLaws.{frames_in-spelled}
pub use Rattle.tk_client.proofs.LogPlaces.{is_written-more}
pub use Rattle.tk_shape.proofs.Offers.{vector_bits}
