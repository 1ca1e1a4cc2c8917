-- The blocks of the tests.
use Rattle.std.proofs.Common.{◌≡◌, ◌≢◌, ℕ, zero, suc, ◌+◌, ◌-◌, ◌*◌, ◌/◌, ◌<◌, List, [], ◌∷◌, length, take}
use Rattle.std.proofs.Common.{drop, refl, ap, sym, ◌∙◌, subst, arith}
use Rattle.std.specs.Prelude.{slice_index_or}
use Rattle.tk_kernel.specs.Pieces.{pieces, all_pieces}
use Rattle.tk_kernel.proofs.Offers.{length-pieces}
use Rattle.tk_answer.specs.Runs.{IsRun}
use Rattle.tk_answer.proofs.Offers.{run_of_slice}
use Rattle.tk_shards.specs.Shards.{AreSameBut}

-- all blocks from one on are a run
pub run-from : (width n i : ℕ) (bytes : List ℕ) → 0 < width → length bytes ≡ n * width → i < n →
    IsRun (all_pieces width bytes) i (take (n * width - i * width) (drop (i * width) bytes))
run-from width n i bytes some long low =
    let upto : i + (n - i) ≡ n = omega arith in
    let apart : (i + (n - i)) * width ≡ i * width + (n - i) * width = omega arith in
    let all : (i + (n - i)) * width ≡ n * width = ap (λ m. m * width) upto in
    let rest : (n - i) * width ≡ n * width - i * width = omega (arith, apart, all) in
    subst (λ m. IsRun (all_pieces width bytes) i (take m (drop (i * width) bytes))) rest
    (run_of_slice width i (n - i) bytes some (omega arith) (omega (arith, all, long)))

others-same : (new old : List ℕ) → drop 41 new ≡ drop 41 old → (i : ℕ) (d : List ℕ) →
    ((k e : ℕ) → k < 1 → slice_index_or (0 ∷ []) k e ≢ i) →
    slice_index_or (pieces 41 8 new) i d ≡ slice_index_or (pieces 41 8 old) i d
others-same new old same zero d apart = absurd (apart 0 0 (omega arith) refl)
others-same new old same (suc i) d apart = ap (λ bytes. slice_index_or (pieces 41 7 bytes) i d) same

eight : (bytes : List ℕ) → length bytes ≡ 328 → all_pieces 41 bytes ≡ pieces 41 8 bytes
eight bytes long = ap (λ k. pieces 41 (k / 41) bytes) long

-- blocks whose first alone has changed
pub first-changed : (new old : List ℕ) → length new ≡ 328 → length old ≡ 328 → drop 41 new ≡ drop 41 old →
    AreSameBut (0 ∷ []) (all_pieces 41 new) (all_pieces 41 old)
first-changed new old n o same =
    subst (λ xs. AreSameBut (0 ∷ []) xs (all_pieces 41 old)) (sym (eight new n))
    (subst (λ ys. AreSameBut (0 ∷ []) (pieces 41 8 new) ys) (sym (eight old o))
    record {
      count = length-pieces 41 8 new ∙ sym (length-pieces 41 8 old);
      others = λ i d within apart. others-same new old same i d apart;
    })
