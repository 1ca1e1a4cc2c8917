-- One spelling for each value, from its being read again.
use Rattle.std.proofs.Common.{◌≡◌, ℕ, List, [], ◌++◌, length, sym, ap, ◌∙◌, arith}
use Rattle.std.proofs.lemmas.List.{append-nil, nil_from_length, length-append}

pub apart : {V : Type 0} (spelling : V → List ℕ) (read : List ℕ → V) (a b : V) (rest : List ℕ) →
    read (spelling a) ≡ a → read (spelling b) ≡ b → length (spelling a) ≡ length (spelling b) → spelling b ≡ spelling a ++ rest → (a ≡ b) × (rest ≡ [])
apart spelling read a b rest again_a again_b long e =
    let nothing : rest ≡ [] = nil_from_length rest (omega (arith, long, ap length e, length-append (spelling a) rest)) in
    let same : spelling b ≡ spelling a = e ∙ ap (λ xs. spelling a ++ xs) nothing ∙ append-nil (spelling a) in
    (sym again_a ∙ ap read (sym same) ∙ again_b, nothing)
