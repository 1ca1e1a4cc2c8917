-- Numbers from 0 on.
use Rattle.std.proofs.Common.{◌≡◌, ℕ, ◌+◌, ◌<◌, List, [], ◌∷◌, ◌++◌, length, ap, sym, ◌∙◌, arith, inl, inr}
use Rattle.std.proofs.Common.{length-append}
use Rattle.std.specs.Prelude.{slice_index_or}
use Rattle.std.proofs.lemmas.Bool.{cases_lt}
use Rattle.std.proofs.Math.ListN.{get_or-append}
use Rattle.std.proofs.Math.Seq.{get_or-append_seam}
use Rattle.tk_shards.specs.Shards.{AreSameBut}
use Rattle.tk_run.specs.Ranging.{AreNumbers}

pub numbers-none : (numbers : List ℕ) → numbers ≡ [] → AreNumbers 0 numbers
numbers-none numbers none =
    record {
      counted = ap length none;
      each = λ k d low. absurd (omega (arith, low, ap length none));
    }

pub numbers-more : (n : ℕ) (numbers : List ℕ) → AreNumbers n numbers →
    AreNumbers (n + 1) (numbers ++ n ∷ [])
numbers-more n numbers are =
    let long = length-append numbers (n ∷ []) in
    record {
      counted = omega (arith, long, are.counted);
      each = λ k d low. elim (cases_lt k n) [
        | inl before ↦
            let here : k < length numbers = omega (arith, before, are.counted) in
            get_or-append numbers (n ∷ []) d k here ∙ are.each k d here
        | inr last ↦
            let same : length numbers ≡ k = omega (arith, last, low, long, are.counted) in
            ap (λ i. slice_index_or (numbers ++ n ∷ []) i d) (sym same)
            ∙ get_or-append_seam numbers n [] d ∙ sym are.counted ∙ same
      ];
    }

-- but for those numbers any lists of that length are the same
pub same-but_all : (count : ℕ) (numbers : List ℕ) (new old : List (List ℕ)) → AreNumbers count numbers →
    length new ≡ count → length new ≡ length old → AreSameBut numbers new old
same-but_all count numbers new old are counted same =
    record {
      count = same;
      others = λ i d low apart.
          let here : i < length numbers = omega (arith, low, counted, are.counted) in
          absurd (apart i i here (are.each i i here));
    }
