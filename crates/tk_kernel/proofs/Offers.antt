-- What the proofs of other crates may cite.
pub use Rattle.tk_kernel.proofs.Sums.{xor_bytes_assoc, xor_bytes_comm, xor_bytes_twice}
pub use Rattle.tk_kernel.proofs.Sums.{xor_bytes-zeros, zeros-xor_bytes, xor_all-append}
pub use Rattle.tk_kernel.proofs.Sums.{length-xor_bytes, length-zeros, length-xor_all}
pub use Rattle.tk_kernel.proofs.Cuts.{pieces-append, concat-pieces, drop-pieces, take-pieces}
pub use Rattle.tk_kernel.proofs.Passes.{pieces-add}
pub use Rattle.tk_kernel.proofs.Cuts.{length-pieces, get_or-pieces, AllSized-pieces, AllSized-all_pieces}
pub use Rattle.tk_kernel.proofs.Cuts.{all_pieces-append, all_pieces_short, concat-all_pieces, all_pieces-concat}
pub use Rattle.tk_kernel.proofs.Chosen.{AllSized-chosen_from, chosen_from-append}
pub use Rattle.tk_kernel.proofs.Sized.{AllSized-set, AllSized-append, AllSized-map, length-concat}
