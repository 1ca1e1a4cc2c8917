-- What the proofs of other crates may cite.

-- a change of all lists of a length shows what passes a test as often as it was shown before
pub use Rattle.tk_counts.proofs.Counting.{shown-as_often}
-- lists of bytes, and what is made of them
pub use Rattle.tk_counts.proofs.Bytes.{AreBytes, no_bytes, byte-cons, bytes-append, bytes-take}
pub use Rattle.tk_counts.proofs.Bytes.{bytes-drop, bytes-front, bytes-rest, bytes-zeros, bytes-flat_map, bytes-xor}
pub use Rattle.tk_counts.proofs.Bytes.{AllBytes, bytes-concat, bytes-pieces, bytes-at, bytes-xor_all}
pub use Rattle.tk_counts.proofs.Bytes.{bytes-unit_vector, bytes-last_share}
