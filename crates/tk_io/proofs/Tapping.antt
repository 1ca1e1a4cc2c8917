-- What taps gained, call after call.
use Rattle.std.proofs.Common.{◌≡◌, refl, ap, sym, ◌∙◌, arith, inl, inr, ℕ, zero, suc, ◌+◌, ◌≤◌}
use Rattle.std.proofs.Common.{List, [], ◌∷◌, ◌++◌, length, take}
use Rattle.std.proofs.lemmas.Bool.{cases_lt}
use Rattle.std.proofs.lemmas.List.{take_all, take-append-le}
use Rattle.tk_io.specs.Content.{gained, Told}
use Rattle.tk_io.specs.Tapped.{GainsFront, TapsGain, TapsGainFronts}
use Rattle.tk_io.proofs.Contents.{gained-twice}

-- ---- one tap

-- all of it is a front of it
pub front-of_all : (t u : Told) (a : List ℕ) → u ≡ gained t a → GainsFront t u a
front-of_all t u a all =
    (length a, all ∙ ap (gained t) (sym (take_all (length a) a (omega arith))))

front_longer : (n : ℕ) (a b : List ℕ) → (m : ℕ) × (take n a ≡ take m (a ++ b))
front_longer n a b =
    elim (cases_lt (length a) n) [
      | inl past ↦ (
        length a,
        take_all n a (omega (arith, past)) ∙ sym (take_all (length a) a (omega arith))
            ∙ sym (take-append-le (length a) a b (omega arith)),
      )
      | inr within ↦ (n, sym (take-append-le n a b within))
    ]

-- a front of what comes first is a front of both
pub front-of_first : (t u : Told) (a b : List ℕ) → GainsFront t u a → GainsFront t u (a ++ b)
front-of_first t u a b front =
    let longer = front_longer front.0 a b in
    (longer.0, front.1 ∙ ap (gained t) longer.1)

take_past : (a : List ℕ) (m n : ℕ) (b : List ℕ) → m ≡ length a + n →
    take m (a ++ b) ≡ a ++ take n b
take_past [] m n b here = ap (λ (k : ℕ). take k b) (omega (arith, here))
take_past (x ∷ a) zero n b here = absurd (omega (arith, here))
take_past (x ∷ a) (suc m) n b here =
    ap (λ (xs : List ℕ). x ∷ xs) (take_past a m n b (omega (arith, here)))

-- a front of what comes second, where the first is there
pub front-of_second : (t u v : Told) (a b : List ℕ) → u ≡ gained t a → GainsFront u v b →
    GainsFront t v (a ++ b)
front-of_second t u v a b first front =
    let n = front.0 in (
      length a + n,
      front.1 ∙ ap (λ (w : Told). gained w (take n b)) first
          ∙ gained-twice t a (take n b)
          ∙ ap (gained t) (sym (take_past a (length a + n) n b refl)),
    )

-- ---- all taps

abbrev Bytes : Type 0
Bytes = ℕ → List ℕ

abbrev AllTaps : Type 0
AllTaps = ℕ → Told

pub taps-twice : (n : ℕ) (a b : Bytes) (t u v : AllTaps) → TapsGain n a t u → TapsGain n b u v →
    TapsGain n (λ j. a j ++ b j) t v
taps-twice n a b t u v first second j low high =
    second j low high ∙ ap (λ (w : Told). gained w (b j)) (first j low high)
    ∙ gained-twice (t j) (a j) (b j)

pub fronts-of_all : (n : ℕ) (a : Bytes) (t u : AllTaps) → TapsGain n a t u → TapsGainFronts n a t u
fronts-of_all n a t u all j low high = front-of_all (t j) (u j) (a j) (all j low high)

-- what bytes give for the taps alone matters
abbrev SameBytes : ℕ → Bytes → Bytes → Type 0
SameBytes n a b = (j : ℕ) → 1 ≤ j → j ≤ n → a j ≡ b j

pub taps-same : (n : ℕ) (a b : Bytes) (t u : AllTaps) → SameBytes n a b → TapsGain n a t u →
    TapsGain n b t u
taps-same n a b t u same all j low high = all j low high ∙ ap (gained (t j)) (same j low high)
