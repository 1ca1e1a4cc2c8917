-- Sums of chosen blocks add up.
use Rattle.std.proofs.Common.{◌≡◌, ℕ, ◌+◌, Bool, true, false, cond, List, [], ◌∷◌, length, replicate, map, refl, ap, sym, ◌∙◌}
use Rattle.std.proofs.Math.Bool.{xor}
use Rattle.tk_kernel.specs.Xor.{xor_bytes, xor_all}
use Rattle.tk_kernel.specs.Pieces.{AllSized}
use Rattle.tk_kernel.specs.Chosen.{has_bit, chosen_from, chosen_sum}
use Rattle.tk_kernel.proofs.Offers.{xor_bytes_assoc, xor_bytes_comm, xor_bytes_twice, zeros-xor_bytes, length-zeros, length-xor_all}
use Rattle.tk_kernel.proofs.Offers.{AllSized-chosen_from}
use Rattle.tk_bits.proofs.Vectors.{has_bit-xor_bytes, has_bit-zeros}

pub length-chosen : (width i : ℕ) (blocks : List (List ℕ)) (v : List ℕ) → AllSized width blocks → length (xor_all width (chosen_from i blocks v)) ≡ width
length-chosen width i blocks v h = length-xor_all width (chosen_from i blocks v) (AllSized-chosen_from width i blocks v h)

-- a block in both sums or in neither falls out, in one of them it stays
one_block : (b c : Bool) (width : ℕ) (x : List ℕ) (us vs ws : List (List ℕ)) → length x ≡ width → length (xor_all width vs) ≡ width → length (xor_all width ws) ≡ width →
    xor_all width us ≡ xor_bytes (xor_all width vs) (xor_all width ws) →
    xor_all width (cond (xor b c) (x ∷ us) us) ≡ xor_bytes (xor_all width (cond b (x ∷ vs) vs)) (xor_all width (cond c (x ∷ ws) ws))
unfolding xor
one_block false false width x us vs ws ex ev ew h = h
one_block true false width x us vs ws ex ev ew h = ap (xor_bytes x) h ∙ sym (xor_bytes_assoc x (xor_all width vs) (xor_all width ws))
one_block false true width x us vs ws ex ev ew h =
    let v = xor_all width vs in
    let w = xor_all width ws in
    ap (xor_bytes x) (h ∙ xor_bytes_comm v w) ∙ sym (xor_bytes_assoc x w v) ∙ xor_bytes_comm (xor_bytes x w) v
one_block true true width x us vs ws ex ev ew h =
    let v = xor_all width vs in
    let w = xor_all width ws in
    h
    ∙ ap (xor_bytes v) (sym (xor_bytes_twice x w (ex ∙ sym ew)))
    ∙ sym (xor_bytes_assoc v x (xor_bytes x w))
    ∙ ap (λ y. xor_bytes y (xor_bytes x w)) (xor_bytes_comm v x)

two_vectors : (width i : ℕ) (blocks : List (List ℕ)) (v w : List ℕ) → AllSized width blocks → length v ≡ length w →
    xor_all width (chosen_from i blocks (xor_bytes v w)) ≡ xor_bytes (xor_all width (chosen_from i blocks v)) (xor_all width (chosen_from i blocks w))
two_vectors width i [] v w h e = sym (zeros-xor_bytes width (replicate width 0) (length-zeros width))
two_vectors width i (x ∷ xs) v w h e =
    let us = chosen_from (i + 1) xs (xor_bytes v w) in
    ap (λ b. xor_all width (cond b (x ∷ us) us)) (has_bit-xor_bytes v w i e)
    ∙ one_block (has_bit v i) (has_bit w i) width x us (chosen_from (i + 1) xs v) (chosen_from (i + 1) xs w) h.0
    (length-chosen width (i + 1) xs v h.1) (length-chosen width (i + 1) xs w h.1) (two_vectors width (i + 1) xs v w h.1 e)

pub chosen_from-zeros : (size i : ℕ) (blocks : List (List ℕ)) → chosen_from i blocks (replicate size 0) ≡ []
chosen_from-zeros size i [] = refl
chosen_from-zeros size i (x ∷ xs) =
    let others = chosen_from (i + 1) xs (replicate size 0) in
    ap (λ b. cond b (x ∷ others) others) (has_bit-zeros size i) ∙ chosen_from-zeros size (i + 1) xs

pub sums_add : (width size : ℕ) (blocks vectors : List (List ℕ)) → AllSized width blocks → AllSized size vectors →
    chosen_sum width blocks (xor_all size vectors) ≡ xor_all width (map (chosen_sum width blocks) vectors)
unfolding chosen_sum
sums_add width size blocks [] h k = ap (xor_all width) (chosen_from-zeros size 0 blocks)
sums_add width size blocks (v ∷ vs) h k =
    two_vectors width 0 blocks v (xor_all size vs) h (k.0 ∙ sym (length-xor_all size vs k.1))
    ∙ ap (xor_bytes (chosen_sum width blocks v)) (sums_add width size blocks vs h k.1)

pub length-chosen_sum : (width : ℕ) (blocks : List (List ℕ)) (v : List ℕ) → AllSized width blocks →
    length (chosen_sum width blocks v) ≡ width
unfolding chosen_sum
length-chosen_sum width blocks v h = length-chosen width 0 blocks v h

-- what two joined vectors choose is what each of them chooses, joined
pub chosen_sum-joined : (width : ℕ) (blocks : List (List ℕ)) (v w : List ℕ) → AllSized width blocks →
    length v ≡ length w →
    chosen_sum width blocks (xor_bytes v w)
    ≡ xor_bytes (chosen_sum width blocks v) (chosen_sum width blocks w)
unfolding chosen_sum
chosen_sum-joined width blocks v w h e = two_vectors width 0 blocks v w h e
