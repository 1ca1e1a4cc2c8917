-- Blocks that are copied run by run.
use Rattle.std.proofs.Common.{◌≡◌, ℕ, ◌+◌, ◌-◌, ◌*◌, ◌/◌, ◌<◌, ◌≤◌, List, [], ◌++◌, length, take, drop}
use Rattle.std.proofs.Common.{ap, ap₂, sym, ◌∙◌, arith, take-add, append_assoc, append-nil}
use Rattle.std.specs.Prelude.{slice_index_or}
use Rattle.std.specs.List.{concat}
use Rattle.std.proofs.Math.Nat.{le-div_iff_mul-le}
use Rattle.std.proofs.lemmas.List.{length-drop, length-take-le, take-take, drop-drop, drop_more}
use Rattle.std.proofs.lemmas.List.Folds.{concat-append}
use Rattle.tk_kernel.specs.Pieces.{all_pieces, AllSized}
use Rattle.tk_kernel.proofs.Offers.{all_pieces-concat, concat-pieces, length-pieces, take-pieces}
use Rattle.tk_answer.specs.Runs.{IsRun}
use Rattle.tk_answer.proofs.Offers.{AllSized-take, AllSized-drop}

module _ (width : ℕ) (blocks : List (List ℕ)) (some : 0 < width) (each : AllSized width blocks) where
  -- the blocks of a run
  pieces-run : (i : ℕ) (bytes : List ℕ) (run : IsRun blocks i bytes) →
      all_pieces width bytes ≡ take run.count (drop i blocks)
  pieces-run i bytes run =
      ap (all_pieces width) run.joined
      ∙ all_pieces-concat width (take run.count (drop i blocks)) some
      (AllSized-take width run.count (drop i blocks) (AllSized-drop width i blocks each))

  pub count-run : (i : ℕ) (bytes : List ℕ) (run : IsRun blocks i bytes) → length bytes / width ≡ run.count
  count-run i bytes run =
      sym (length-pieces width (length bytes / width) bytes) ∙ ap length (pieces-run i bytes run)
      ∙ length-take-le run.count (drop i blocks) (omega (arith, run.within, run.some, length-drop i blocks))

  -- the first of them
  pub front-run : (i m : ℕ) (bytes : List ℕ) → IsRun blocks i bytes → m ≤ length bytes / width →
      take (m * width) bytes ≡ concat (take m (drop i blocks))
  front-run i m bytes run few =
      let all = length bytes / width in
      let fits : m * width ≤ length bytes = (le-div_iff_mul-le some).0 few in
      let within : m ≤ run.count = omega (arith, count-run i bytes run) in
      sym (concat-pieces width m bytes fits)
      ∙ ap concat (sym (take-pieces width m all bytes few) ∙ ap (take m) (pieces-run i bytes run)
      ∙ take-take m run.count (drop i blocks) within)

  -- the first block of a run
  pub first-fits : (i : ℕ) (bytes : List ℕ) → IsRun blocks i bytes → width ≤ length bytes
  first-fits i bytes run =
      let one : 1 * width ≤ length bytes =
      (le-div_iff_mul-le some).0 (omega (arith, count-run i bytes run, run.some)) in
      omega (arith, one)

  pub first-block : (i : ℕ) (bytes : List ℕ) → IsRun blocks i bytes → take width bytes ≡ slice_index_or blocks i []
  first-block i bytes run =
      let one : width ≡ 1 * width = omega arith in
      let low : i < length blocks = omega (arith, run.within, run.some) in
      ap (λ n. take n bytes) one
      ∙ front-run i 1 bytes run (omega (arith, count-run i bytes run, run.some))
      ∙ ap (λ vs. concat (take 1 vs)) (drop_more blocks i [] low) ∙ append-nil (slice_index_or blocks i [])

-- some blocks more, behind others
pub gathered-more : (blocks : List (List ℕ)) (before bytes part : List ℕ) (from done m : ℕ) → from ≤ done →
    bytes ≡ before ++ concat (take (done - from) (drop from blocks)) →
    part ≡ concat (take m (drop done blocks)) →
    bytes ++ part ≡ before ++ concat (take (done + m - from) (drop from blocks))
gathered-more blocks before bytes part from done m order e f =
    let rest = drop from blocks in
    let upto : from + (done - from) ≡ done = omega arith in
    let more : done - from + m ≡ done + m - from = omega arith in
    ap₂ (λ (xs ys : List ℕ). xs ++ ys) e
    (f ∙ ap (λ n. concat (take m (drop n blocks))) (sym upto)
    ∙ ap (λ ys. concat (take m ys)) (sym (drop-drop (done - from) from blocks)))
    ∙ append_assoc before (concat (take (done - from) rest)) (concat (take m (drop (done - from) rest)))
    ∙ ap (λ ys. before ++ ys)
    (sym (concat-append (take (done - from) rest) (take m (drop (done - from) rest)))
    ∙ ap concat (sym (take-add (done - from) m rest)) ∙ ap (λ n. concat (take n rest)) more)
