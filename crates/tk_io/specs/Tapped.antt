-- What taps gained.
use Rattle.std.specs.Prelude.{◌≡◌, ℕ, ◌<◌, ◌≤◌, ◌⊎◌, List, take, Option}
use Rattle.tk_io.specs.Content.{gained}

-- a tap gained a front of these bytes
abbrev pub GainsFront : Option (List ℕ) → Option (List ℕ) → List ℕ → Type 0
GainsFront old new bytes = (n : ℕ) × (new ≡ gained old (take n bytes))

-- each tap from 1 to count gained what bytes gives for it
abbrev pub TapsGain : ℕ → (ℕ → List ℕ) → (ℕ → Option (List ℕ)) → (ℕ → Option (List ℕ)) → Type 0
TapsGain count bytes old new = (j : ℕ) → 1 ≤ j → j ≤ count → new j ≡ gained (old j) (bytes j)

-- each gained a front of it
abbrev pub TapsGainFronts :
    ℕ → (ℕ → List ℕ) → (ℕ → Option (List ℕ)) → (ℕ → Option (List ℕ)) → Type 0
TapsGainFronts count bytes old new =
    (j : ℕ) → 1 ≤ j → j ≤ count → GainsFront (old j) (new j) (bytes j)

-- no tap but those gained anything
abbrev pub TapsKeepBut : ℕ → (ℕ → Option (List ℕ)) → (ℕ → Option (List ℕ)) → Type 0
TapsKeepBut count old new = (j : ℕ) → (j ≡ 0) ⊎ (count < j) → new j ≡ old j

-- no tap gained anything
abbrev pub TapsKeep : (ℕ → Option (List ℕ)) → (ℕ → Option (List ℕ)) → Type 0
TapsKeep old new = (j : ℕ) → new j ≡ old j
