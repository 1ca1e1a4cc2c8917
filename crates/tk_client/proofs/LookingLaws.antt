-- A bucket stands in front of the run that begins with it.
use Rattle.std.proofs.Common.{◌≡◌, ap, sym, ◌∙◌, arith, ℕ, zero, suc, ◌<◌, List, [], ◌∷◌, ◌++◌, length, take, drop}
use Rattle.std.specs.Prelude.{slice_index_or}
use Rattle.std.specs.List.{concat}
use Rattle.std.proofs.Math.Seq.{take-append_seam}
use Rattle.tk_kernel.specs.Pieces.{AllSized}
use Rattle.tk_answer.specs.Runs.{IsRun}

front-of : (width : ℕ) (blocks : List (List ℕ)) (i count : ℕ) → AllSized width blocks → 0 < count →
    i < length blocks →
    take width (concat (take count (drop i blocks))) ≡ slice_index_or blocks i []
front-of width [] i count sized some within = absurd (omega (arith, within))
front-of width (b ∷ bs) zero zero sized some within = absurd (omega (arith, some))
front-of width (b ∷ bs) zero (suc count) sized some within =
    ap (λ (n : ℕ). take n (b ++ concat (take count bs))) (sym sized.0)
    ∙ take-append_seam b (concat (take count bs))
front-of width (b ∷ bs) (suc i) count sized some within =
    front-of width bs i count sized.1 some (omega (arith, within))

pub run-front : (width : ℕ) (blocks : List (List ℕ)) (i : ℕ) (bytes : List ℕ) →
    AllSized width blocks → IsRun blocks i bytes → take width bytes ≡ slice_index_or blocks i []
run-front width blocks i bytes sized run =
    let within : i < length blocks = omega (arith, run.some, run.within) in
    ap (take width) run.joined ∙ front-of width blocks i run.count sized run.some within
