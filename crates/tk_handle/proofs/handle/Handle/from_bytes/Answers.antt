use Rattle.std.proofs.Common.{◌≡◌, ◌<◌, ℕ, ◌++◌, take, drop, get_or, rules, ap, ◌∙◌}
use Rattle.std.proofs.Math.Facts.{Fits-lt-pow}
use Rattle.std.proofs.lemmas.Nat.{be_bytes_8}
use Rattle.std.proofs.lemmas.List.{take_rest}
use Rattle.tk_handle.proofs.Joined.{four_pieces, bytes_in_front}
use Rattle.tk_handle.proofs.handle.Handle.from_bytes.Goals as goal

pub returns-clause-found : goal.returns-clause-found
returns-clause-found c =
    let bytes = c.args.bytes.now in
    let first : c.copy_from_slice.new.self ≡ take 8 bytes = c.copy_from_slice.ensures.after in
    let second : c.copy_from_slice-2.new.self ≡ take 32 (drop 8 bytes) = c.copy_from_slice-2.ensures.after in
    let third : c.copy_from_slice-3.new.self ≡ take 32 (drop 40 bytes) = c.copy_from_slice-3.ensures.after in
    let last : c.copy_from_slice-4.new.self ≡ drop 72 bytes = c.copy_from_slice-4.ensures.after ∙ take_rest bytes 72 in
    let are_bytes : (i : ℕ) → get_or c.copy_from_slice.new.self i 0 < 256 = rw first (bytes_in_front 8 bytes (λ i. Fits-lt-pow (c.type_inv.bytes i))) in
    let id = be_bytes_8 c.copy_from_slice.new.self c.from_be_bytes.result (search rules) are_bytes c.from_be_bytes.ensures in
    ap (λ p. p ++ c.copy_from_slice-2.new.self ++ c.copy_from_slice-3.new.self ++ c.copy_from_slice-4.new.self) id
    ∙ rw (first, second, third, last) (four_pieces bytes)
