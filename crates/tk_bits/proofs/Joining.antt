-- Parts added one after the other.
use Rattle.std.proofs.Common.{◌≡◌, ℕ, ◌<◌, List, ◌++◌, length, replicate, ap, sym, ◌∙◌}
use Rattle.tk_kernel.specs.Xor.{xor_bytes, xor_all}
use Rattle.tk_kernel.specs.Pieces.{all_pieces}
use Rattle.tk_kernel.proofs.Offers.{xor_bytes_assoc, xor_bytes-zeros, zeros-xor_bytes, length-xor_all}
use Rattle.tk_kernel.proofs.Offers.{all_pieces-append, all_pieces_short, AllSized-all_pieces}

-- out with all parts of rest added
abbrev pub rest_added : ℕ → List ℕ → List ℕ → List ℕ
rest_added size rest out = xor_bytes out (xor_all size (all_pieces size rest))

pub part_added : (size : ℕ) (part rest out : List ℕ) → 0 < size → length part ≡ size →
    rest_added size rest (xor_bytes out part) ≡ rest_added size (part ++ rest) out
part_added size part rest out some e =
    xor_bytes_assoc out part (xor_all size (all_pieces size rest))
    ∙ ap (λ ps. xor_bytes out (xor_all size ps)) (sym (all_pieces-append size part rest some e))

pub no_part_left : (size : ℕ) (rest out : List ℕ) → length out ≡ size → length rest < size → rest_added size rest out ≡ out
no_part_left size rest out e short =
    ap (λ ps. xor_bytes out (xor_all size ps)) (all_pieces_short size rest short)
    ∙ ap (λ n. xor_bytes out (replicate n 0)) (sym e) ∙ xor_bytes-zeros out

pub added_to_zeros : (size : ℕ) (parts : List ℕ) → rest_added size parts (replicate size 0) ≡ xor_all size (all_pieces size parts)
added_to_zeros size parts =
    let ps = all_pieces size parts in
    zeros-xor_bytes size (xor_all size ps) (length-xor_all size ps (AllSized-all_pieces size parts))
