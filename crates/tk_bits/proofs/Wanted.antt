-- Completed vectors of a bucket, and the block that their answers give.
use Rattle.std.proofs.Common.{◌≡◌, ◌≢◌, ℕ, zero, suc, ◌+◌, ◌*◌, ◌<◌, cond, Some, List, [], ◌∷◌, length, replicate, map, refl, ap, sym, ◌∙◌, arith}
use Rattle.std.specs.List.{slice_get}
use Rattle.tk_kernel.specs.Xor.{xor_bytes, xor_all}
use Rattle.tk_kernel.specs.Pieces.{AllSized}
use Rattle.tk_kernel.specs.Chosen.{has_bit, chosen_from, chosen_sum}
use Rattle.tk_kernel.proofs.Offers.{xor_bytes_comm, xor_bytes_twice, xor_bytes-zeros, length-xor_bytes, length-xor_all, xor_all-append, AllSized-append}
use Rattle.tk_bits.specs.Shares.{unit_vector, last_share, completed}
use Rattle.tk_bits.proofs.Vectors.{length-unit_vector, has_bit-unit_same, has_bit-unit_other}
use Rattle.tk_bits.proofs.Sums.{sums_add}

pub length-last_share : (size i : ℕ) (drawn : List (List ℕ)) → AllSized size drawn → length (last_share size i drawn) ≡ size
length-last_share size i drawn h =
    length-xor_bytes (unit_vector size i) (xor_all size drawn) (length-unit_vector size i ∙ sym (length-xor_all size drawn h)) ∙ length-unit_vector size i

pub completed_join : (size i : ℕ) (drawn : List (List ℕ)) → AllSized size drawn → xor_all size (completed size i drawn) ≡ unit_vector size i
completed_join size i drawn h =
    let all = xor_all size drawn in
    let unit = unit_vector size i in
    let last = last_share size i drawn in
    let long = length-xor_all size drawn h in
    xor_all-append size drawn (last ∷ []) (length-last_share size i drawn h, tt)
    ∙ ap (λ n. xor_bytes all (xor_bytes last (replicate n 0))) (sym (length-last_share size i drawn h))
    ∙ ap (xor_bytes all) (xor_bytes-zeros last ∙ xor_bytes_comm unit all)
    ∙ xor_bytes_twice all unit (long ∙ sym (length-unit_vector size i))

module _ (width size i : ℕ) (within : i < 8 * size) where
  none_chosen : (j : ℕ) (blocks : List (List ℕ)) → i < j → chosen_from j blocks (unit_vector size i) ≡ []
  none_chosen j [] h = refl
  none_chosen j (x ∷ xs) h =
      let others = chosen_from (j + 1) xs (unit_vector size i) in
      let apart : j ≢ i = omega arith in
      ap (λ b. cond b (x ∷ others) others) (has_bit-unit_other size i j within apart) ∙ none_chosen (j + 1) xs (omega arith)

  one_chosen : (j k : ℕ) (blocks : List (List ℕ)) → AllSized width blocks → i ≡ j + k → k < length blocks →
      slice_get blocks k ≡ Some (xor_all width (chosen_from j blocks (unit_vector size i)))
  one_chosen j k [] h e less = absurd (omega arith)
  one_chosen j zero (x ∷ xs) h e less =
      let others = chosen_from (j + 1) xs (unit_vector size i) in
      let here : j ≡ i = omega arith in
      let chosen = ap (has_bit (unit_vector size i)) here ∙ has_bit-unit_same size i within in
      ap Some (sym
      (ap (λ b. xor_all width (cond b (x ∷ others) others)) chosen
      ∙ ap (λ ys. xor_bytes x (xor_all width ys)) (none_chosen (j + 1) xs (omega arith))
      ∙ ap (λ n. xor_bytes x (replicate n 0)) (sym h.0)
      ∙ xor_bytes-zeros x))
  one_chosen j (suc k) (x ∷ xs) h e less =
      let others = chosen_from (j + 1) xs (unit_vector size i) in
      let apart : j ≢ i = omega arith in
      one_chosen (j + 1) k xs h.1 (omega arith) (omega arith)
      ∙ sym (ap (λ b. Some (xor_all width (cond b (x ∷ others) others))) (has_bit-unit_other size i j within apart))

pub completed_answers : (width size i : ℕ) (blocks drawn : List (List ℕ)) → AllSized width blocks → length blocks ≡ 8 * size → AllSized size drawn →
    i < length blocks → slice_get blocks i ≡ Some (xor_all width (map (chosen_sum width blocks) (completed size i drawn)))
unfolding chosen_sum
completed_answers width size i blocks drawn h e k less =
    one_chosen width size i (omega arith) 0 i blocks h (omega arith) less
    ∙ ap (λ v. Some (chosen_sum width blocks v)) (sym (completed_join size i drawn k))
    ∙ ap Some (sums_add width size blocks (completed size i drawn) h (AllSized-append size drawn (last_share size i drawn ∷ []) k (length-last_share size i drawn k, tt)))

-- a unit vector chooses its block alone
pub unit-chosen : (width size i : ℕ) (blocks : List (List ℕ)) → AllSized width blocks →
    length blocks ≡ 8 * size → i < length blocks →
    slice_get blocks i ≡ Some (chosen_sum width blocks (unit_vector size i))
unfolding chosen_sum
unit-chosen width size i blocks h e less =
    one_chosen width size i (omega arith) 0 i blocks h (omega arith) less
