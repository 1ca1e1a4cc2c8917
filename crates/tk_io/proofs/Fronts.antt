-- What taps have where giving ended early.
use Rattle.std.proofs.Common.{◌≡◌, ◌≢◌, sym, ◌∙◌, subst, arith, inl, inr, ℕ, ◌+◌, ◌<◌, List, Option}
use Rattle.std.proofs.lemmas.Bool.{cases_lt}
use Rattle.tk_io.specs.Tapped.{GainsFront, TapsGain, TapsGainFronts, TapsKeepBut}
use Rattle.tk_io.proofs.Contents.{gained-nothing}
use Rattle.tk_io.proofs.Tapping.{front-of_all}

-- the first i taps gained all, the next one a front, and the others nothing
pub fronts-here : (i n : ℕ) (bytes : ℕ → List ℕ) (old mid new : ℕ → Option (List ℕ)) →
    TapsGain i bytes old mid → TapsKeepBut i old mid →
    GainsFront (mid (i + 1)) (new (i + 1)) (bytes (i + 1)) →
    ((j : ℕ) → j ≢ i + 1 → new j ≡ mid j) → TapsGainFronts n bytes old new
fronts-here i n bytes old mid new gave keep front stay j low high =
    elim (cases_lt j (i + 1)) [
      | inl before ↦
          front-of_all (old j) (new j) (bytes j)
          (stay j (λ same. omega (arith, same, before)) ∙ gave j low (omega (arith, before)))
      | inr at ↦ elim (cases_lt (i + 1) j) [
        | inl past ↦ (
          0,
          stay j (λ same. omega (arith, same, past)) ∙ keep j (inr (omega (arith, past)))
              ∙ sym (gained-nothing (old j)),
        )
        | inr upto ↦
            let same : i + 1 ≡ j = omega (arith, at, upto) in
            subst (λ (k : ℕ). GainsFront (old k) (new k) (bytes k)) same
            (subst (λ (t : Option (List ℕ)). GainsFront t (new (i + 1)) (bytes (i + 1)))
            (keep (i + 1) (inr (omega arith))) front)
      ]
    ]

-- no tap after the last one changed
pub kept-here : (i n : ℕ) (old mid new : ℕ → Option (List ℕ)) → i < n →
    TapsKeepBut i old mid → ((j : ℕ) → j ≢ i + 1 → new j ≡ mid j) → TapsKeepBut n old new
kept-here i n old mid new within keep stay j (inl none) =
    stay j (λ same. omega (arith, same, none)) ∙ keep j (inl none)
kept-here i n old mid new within keep stay j (inr past) =
    stay j (λ same. omega (arith, same, past, within))
    ∙ keep j (inr (omega (arith, past, within)))

-- taps that gained nothing gained a front of anything
pub fronts-none : (n : ℕ) (bytes : ℕ → List ℕ) (t : ℕ → Option (List ℕ)) → TapsGainFronts n bytes t t
fronts-none n bytes t j low high = (0, sym (gained-nothing (t j)))
