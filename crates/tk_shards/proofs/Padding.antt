-- Blocks of zeros around those of a range.
use Rattle.std.proofs.Common.{◌≡◌, ℕ, zero, suc, ◌+◌, ◌*◌, ◌/◌, ◌%◌, true, false, cond}
use Rattle.std.proofs.Common.{List, ◌∷◌, ◌++◌, length, replicate, refl, ap, ap₂, sym, ◌∙◌, arith}
use Rattle.std.proofs.lemmas.List.{length-append, length-replicate}
use Rattle.tk_kernel.specs.Xor.{xor_bytes, xor_all}
use Rattle.tk_kernel.specs.Pieces.{AllSized}
use Rattle.tk_kernel.specs.Chosen.{has_bit, chosen_from}
use Rattle.tk_kernel.proofs.Offers.{xor_all-append, zeros-xor_bytes, xor_bytes-zeros, length-xor_all, length-zeros}
use Rattle.tk_kernel.proofs.Offers.{AllSized-chosen_from, AllSized-append, chosen_from-append}
use Rattle.tk_shards.specs.Ranged.{Ranged, zero_blocks, lacking, padded, part_of}
use Rattle.tk_shards.proofs.Sized.{AllSized-zeros}

-- how many blocks there are with those of zeros, and that these make whole eights
pub length-padded : (r : Ranged) →
    length (padded r) ≡ r.first % 8 + (length r.blocks + lacking (r.first + length r.blocks))
length-padded r =
    let before = zero_blocks r.width (r.first % 8) in
    let behind = zero_blocks r.width (lacking (r.first + length r.blocks)) in
    length-append before (r.blocks ++ behind)
    ∙ ap₂ (λ a b. a + b) (length-replicate (r.first % 8) (replicate r.width 0))
    (length-append r.blocks behind
    ∙ ap (λ b. length r.blocks + b) (length-replicate (lacking (r.first + length r.blocks)) (replicate r.width 0)))

pub AllSized-padded : (r : Ranged) → AllSized r.width r.blocks → AllSized r.width (padded r)
AllSized-padded r each =
    let before = zero_blocks r.width (r.first % 8) in
    let behind = zero_blocks r.width (lacking (r.first + length r.blocks)) in
    AllSized-append r.width before (r.blocks ++ behind) (AllSized-zeros r.width (r.first % 8))
    (AllSized-append r.width r.blocks behind each (AllSized-zeros r.width (lacking (r.first + length r.blocks))))

-- blocks of zeros add nothing, whichever are chosen
zeros-sum : (width i n : ℕ) (v : List ℕ) → xor_all width (chosen_from i (zero_blocks width n) v) ≡ replicate width 0
zeros-sum width i zero v = refl
zeros-sum width i (suc n) v =
    let zeros = replicate width 0 in
    let others = chosen_from (i + 1) (zero_blocks width n) v in
    let rest : xor_all width others ≡ zeros = zeros-sum width (i + 1) n v in
    let added : xor_bytes zeros (xor_all width others) ≡ zeros =
    ap (xor_bytes zeros) rest ∙ zeros-xor_bytes width zeros (length-zeros width) in
    elim (has_bit v i) as (λ b. xor_all width (cond b (zeros ∷ others) others) ≡ zeros)
    [ true ↦ added | false ↦ rest ]

-- what the vector's bytes from that over the range on choose of its blocks and of the zeros around them
pub padded-sum : (r : Ranged) (v : List ℕ) (from : ℕ) → AllSized r.width r.blocks → from ≡ r.first / 8 →
    xor_all r.width (chosen_from (8 * from) (padded r) v) ≡ part_of r v
padded-sum r v from each begins =
    let width = r.width in
    let n = length r.blocks in
    let zeros = replicate {A = ℕ} width 0 in
    let before = zero_blocks width (r.first % 8) in
    let behind = zero_blocks width (lacking (r.first + n)) in
    let own = chosen_from r.first r.blocks v in
    let first : 8 * from + length before ≡ r.first =
    ap (λ k. 8 * from + k) (length-replicate (r.first % 8) zeros) ∙ omega arith in
    let own_sized : AllSized width own = AllSized-chosen_from width r.first r.blocks v each in
    let own_long : length (xor_all width own) ≡ width = length-xor_all width own own_sized in
    let last = chosen_from (r.first + n) behind v in
    let last_sized : AllSized width last =
    AllSized-chosen_from width (r.first + n) behind v (AllSized-zeros width (lacking (r.first + n))) in
    let tail : xor_all width (own ++ last) ≡ xor_all width own =
    xor_all-append width own last last_sized
    ∙ ap (xor_bytes (xor_all width own)) (zeros-sum width (r.first + n) (lacking (r.first + n)) v)
    ∙ ap (λ k. xor_bytes (xor_all width own) (replicate k 0)) (sym own_long) ∙ xor_bytes-zeros (xor_all width own) in
    ap (xor_all width) (chosen_from-append (8 * from) before (r.blocks ++ behind) v)
    ∙ ap (λ f. xor_all width (chosen_from (8 * from) before v ++ chosen_from f (r.blocks ++ behind) v)) first
    ∙ ap (λ ys. xor_all width (chosen_from (8 * from) before v ++ ys)) (chosen_from-append r.first r.blocks behind v)
    ∙ xor_all-append width (chosen_from (8 * from) before v) (own ++ last)
    (AllSized-append width own last own_sized last_sized)
    ∙ ap₂ xor_bytes (zeros-sum width (8 * from) (r.first % 8) v) tail
    ∙ zeros-xor_bytes width (xor_all width own) own_long
