-- A sum made run by run.
use Rattle.std.proofs.Common.{◌≡◌, ℕ, zero, suc, ◌+◌, ◌-◌, ◌*◌, ◌/◌, ◌%◌, ◌<◌, ◌≤◌, List, [], ◌∷◌, ◌++◌, length, take, drop, replicate, ap, ap₂, sym, ◌∙◌, arith, take-add}
use Rattle.std.specs.List.{concat}
use Rattle.std.proofs.Math.Nat.{mul-mod_left, div-eq_of_eq-mul_left, le-div_iff_mul-le}
use Rattle.std.proofs.lemmas.List.{length-drop, length-take-le, take-append-drop, drop-drop, drop_all, take-take}
use Rattle.std.proofs.lemmas.List.Folds.{concat-append}
use Rattle.tk_kernel.specs.Xor.{xor_bytes, xor_all}
use Rattle.tk_kernel.specs.Pieces.{all_pieces, AllSized}
use Rattle.tk_kernel.specs.Chosen.{chosen_from, chosen_sum}
use Rattle.tk_kernel.proofs.Offers.{xor_bytes_assoc, xor_bytes-zeros, zeros-xor_bytes, xor_all-append, length-concat}
use Rattle.tk_kernel.proofs.Offers.{length-xor_bytes, length-xor_all, length-zeros, AllSized-all_pieces}
use Rattle.tk_kernel.proofs.Offers.{all_pieces-concat, concat-pieces, length-pieces, drop-pieces, take-pieces}
use Rattle.tk_kernel.proofs.Offers.{AllSized-chosen_from, chosen_from-append}
use Rattle.tk_answer.specs.Runs.{IsRun}
use Rattle.tk_answer.specs.Summing.{IsSumming}

pub AllSized-take : (width n : ℕ) (vs : List (List ℕ)) → AllSized width vs → AllSized width (take n vs)
AllSized-take width zero vs h = tt
AllSized-take width (suc n) [] h = tt
AllSized-take width (suc n) (v ∷ vs) h = (h.0, AllSized-take width n vs h.1)

pub AllSized-drop : (width n : ℕ) (vs : List (List ℕ)) → AllSized width vs → AllSized width (drop n vs)
AllSized-drop width zero vs h = h
AllSized-drop width (suc n) [] h = tt
AllSized-drop width (suc n) (v ∷ vs) h = AllSized-drop width n vs h.1

-- the bytes are whole blocks, and no more of them than there are from number i on
pub record IsCut (width : ℕ) (blocks : List (List ℕ)) (i : ℕ) (bytes : List ℕ) : Type 0 where
  pub whole : length bytes % width ≡ 0
  pub some : 0 < length bytes / width
  pub within : i + length bytes / width ≤ length blocks

module _ (width : ℕ) (blocks : List (List ℕ)) (some : 0 < width) (each : AllSized width blocks) where
  AllSized-run : (i count : ℕ) → AllSized width (take count (drop i blocks))
  AllSized-run i count = AllSized-take width count (drop i blocks) (AllSized-drop width i blocks each)

  -- the blocks of a run
  module _ (i : ℕ) (bytes : List ℕ) (run : IsRun blocks i bytes) where
    in_run : List (List ℕ)
    in_run = take run.count (drop i blocks)

    count-in_run : length in_run ≡ run.count
    unfolding in_run
    count-in_run = length-take-le run.count (drop i blocks) (omega (arith, run.within, run.some, length-drop i blocks))

    pub bytes-in_run : length bytes ≡ run.count * width
    unfolding in_run
    bytes-in_run =
        ap length run.joined ∙ length-concat width in_run (AllSized-run i run.count)
        ∙ ap (λ n. n * width) count-in_run

    pub blocks-in_run : length bytes / width ≡ run.count
    blocks-in_run = div-eq_of_eq-mul_left some bytes-in_run

    pub cut_of_run : IsCut width blocks i bytes
    cut_of_run =
        record {
          whole = ap (λ n. n % width) bytes-in_run ∙ mul-mod_left run.count width;
          some = omega (arith, blocks-in_run, run.some);
          within = omega (arith, blocks-in_run, run.within);
        }

    pieces-in_run : all_pieces width bytes ≡ in_run
    unfolding in_run
    pieces-in_run = ap (all_pieces width) run.joined ∙ all_pieces-concat width in_run some (AllSized-run i run.count)

    -- the front of a run
    module _ (m : ℕ) (fits : m ≤ length bytes / width) where
      front-in_run : m * width ≤ length bytes
      front-in_run = (le-div_iff_mul-le some).0 fits

      pub length-front : length (take (m * width) bytes) ≡ m * width
      length-front = length-take-le (m * width) bytes front-in_run

      pub blocks-in_front : length (take (m * width) bytes) / width ≡ m
      blocks-in_front = div-eq_of_eq-mul_left some length-front

      pub front_joined : take (m * width) bytes ≡ concat (take m (drop i blocks))
      unfolding in_run
      front_joined =
          let few : m ≤ run.count = omega (arith, blocks-in_run) in
          sym (concat-pieces width m bytes front-in_run)
          ∙ ap concat (sym (take-pieces width m (length bytes / width) bytes fits)
          ∙ ap (take m) pieces-in_run ∙ take-take m run.count (drop i blocks) few)

      pub front_of_run : 0 < m → IsRun blocks i (take (m * width) bytes)
      front_of_run h =
          record {
            count = m;
            some = h;
            within = omega (arith, blocks-in_run, run.within);
            joined = front_joined;
          }

  -- blocks that are gathered are a run
  pub gathered_run : (i end : ℕ) (bytes : List ℕ) → i < end → end ≤ length blocks → bytes ≡ concat (take (end - i) (drop i blocks)) →
      IsRun blocks i bytes
  gathered_run i end bytes less within joined =
      record {
        count = end - i;
        some = omega arith;
        within = omega arith;
        joined = joined;
      }

  pub gathered_count : (i end : ℕ) (bytes : List ℕ) → i < end → end ≤ length blocks → bytes ≡ concat (take (end - i) (drop i blocks)) →
      length bytes / width ≡ end - i
  unfolding gathered_run
  gathered_count i end bytes less within joined = blocks-in_run i bytes (gathered_run i end bytes less within joined)

  -- and one more of them
  pub gathered_more : (i done m : ℕ) (bytes part : List ℕ) → i ≤ done → bytes ≡ concat (take (done - i) (drop i blocks)) →
      part ≡ concat (take m (drop done blocks)) → bytes ++ part ≡ concat (take (done + m - i) (drop i blocks))
  gathered_more i done m bytes part order e f =
      let upto : i + (done - i) ≡ done = omega arith in
      let more : done - i + m ≡ done + m - i = omega arith in
      ap₂ (λ (xs ys : List ℕ). xs ++ ys) e (f ∙ ap (λ n. concat (take m (drop n blocks))) (sym upto) ∙ ap (λ ys. concat (take m ys)) (sym (drop-drop (done - i) i blocks)))
      ∙ sym (concat-append (take (done - i) (drop i blocks)) (take m (drop (done - i) (drop i blocks))))
      ∙ ap concat (sym (take-add (done - i) m (drop i blocks)))
      ∙ ap (λ n. concat (take n (drop i blocks))) more

  module _ (vector : List ℕ) where
    pub nothing_done : IsSumming width blocks vector 0 (replicate width 0)
    unfolding chosen_sum
    nothing_done =
        let all = chosen_from 0 blocks vector in
        record {
          within = omega arith;
          long = length-zeros width;
          sum = zeros-xor_bytes width (xor_all width all) (length-xor_all width all (AllSized-chosen_from width 0 blocks vector each));
        }

    pub run_added : (done : ℕ) (bytes out : List ℕ) → IsRun blocks done bytes → IsSumming width blocks vector done out →
        IsSumming width blocks vector (done + length bytes / width) (xor_bytes out (xor_all width (chosen_from done (all_pieces width bytes) vector)))
    unfolding in_run
    run_added done bytes out run summing =
        let vs = in_run done bytes run in
        let rest = drop run.count (drop done blocks) in
        let chosen = chosen_from done vs vector in
        let left = chosen_from (done + run.count) rest vector in
        let left_sized = AllSized-chosen_from width (done + run.count) rest vector (AllSized-drop width run.count (drop done blocks) (AllSized-drop width done blocks each)) in
        let added = chosen_from done (all_pieces width bytes) vector in
        let added_long = length-xor_all width added (AllSized-chosen_from width done (all_pieces width bytes) vector (AllSized-all_pieces width bytes)) in
        record {
          within = (cut_of_run done bytes run).within;
          long = length-xor_bytes out (xor_all width added) (summing.long ∙ sym added_long) ∙ summing.long;
          sum =
              ap (λ n. xor_bytes (xor_bytes out (xor_all width (chosen_from done (all_pieces width bytes) vector))) (xor_all width (chosen_from (done + n) (drop (done + n) blocks) vector))) (blocks-in_run done bytes run)
              ∙ ap₂ (λ ps ys. xor_bytes (xor_bytes out (xor_all width (chosen_from done ps vector))) (xor_all width (chosen_from (done + run.count) ys vector))) (pieces-in_run done bytes run) (sym (drop-drop run.count done blocks))
              ∙ xor_bytes_assoc out (xor_all width chosen) (xor_all width left)
              ∙ ap (xor_bytes out) (sym (xor_all-append width chosen left left_sized))
              ∙ ap (λ n. xor_bytes out (xor_all width (chosen ++ chosen_from (done + n) rest vector))) (sym (count-in_run done bytes run))
              ∙ ap (λ ys. xor_bytes out (xor_all width ys)) (sym (chosen_from-append done vs rest vector))
              ∙ ap (λ ys. xor_bytes out (xor_all width (chosen_from done ys vector))) (take-append-drop run.count (drop done blocks))
              ∙ summing.sum;
        }

    pub all_done : (done : ℕ) (out : List ℕ) → length blocks ≤ done → IsSumming width blocks vector done out →
        out ≡ chosen_sum width blocks vector
    all_done done out h summing =
        sym (ap (λ ys. xor_bytes out (xor_all width (chosen_from done ys vector))) (drop_all done blocks h)
        ∙ ap (λ n. xor_bytes out (replicate n 0)) (sym summing.long) ∙ xor_bytes-zeros out)
        ∙ summing.sum

-- blocks that lie in one slice: a part of it is a run
pub run_of_slice : (width i count : ℕ) (bytes : List ℕ) → 0 < width → 0 < count → (i + count) * width ≤ length bytes →
    IsRun (all_pieces width bytes) i (take (count * width) (drop (i * width) bytes))
run_of_slice width i count bytes wide some h =
    let all = length bytes / width in
    let fits : i + count ≤ all = (le-div_iff_mul-le wide).1 h in
    record {
      count = count;
      some = some;
      within = omega (arith, length-pieces width all bytes);
      joined = sym (
          ap (λ ps. concat (take count ps)) (drop-pieces width i all bytes (omega arith))
          ∙ ap concat (take-pieces width count (all - i) (drop (i * width) bytes) (omega arith))
          ∙ concat-pieces width count (drop (i * width) bytes) (omega (arith, length-drop (i * width) bytes)));
    }
