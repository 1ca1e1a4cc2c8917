-- What the proofs of other crates may cite.
pub use Rattle.tk_handle.proofs.KeyBytes.{length-key_bytes, placed}
