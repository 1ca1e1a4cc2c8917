-- What taps gain of sights, one for each server.
use Rattle.std.proofs.Common.{◌≡◌, ap, ◌∙◌, subst, arith, ℕ, ◌-◌, ◌≤◌, List, [], length, map}
use Rattle.std.specs.Prelude.{Option, slice_index_or}
use Rattle.std.specs.List.{range_with_len}
use Rattle.std.proofs.lemmas.List.FromFn.{length-map-range_with_len, get_or-map-range_with_len}
use Rattle.tk_io.specs.Tapped.{GainsFront, TapsGain, TapsGainFronts, TapsKeepBut}
use Rattle.tk_io.proofs.Offers.{taps-same}

module _ (f : ℕ → List ℕ) {servers : ℕ} {sights : List (List ℕ)}
    (are : sights ≡ map f (range_with_len 1 servers)) where
  pub sights-counted : length sights ≡ servers
  sights-counted = ap length are ∙ length-map-range_with_len f 1 servers

  sight-is : (j : ℕ) → 1 ≤ j → j ≤ servers → slice_index_or sights (j - 1) [] ≡ f j
  sight-is j low high =
      ap (λ (xs : List (List ℕ)). slice_index_or xs (j - 1) []) are
      ∙ get_or-map-range_with_len f 1 servers (j - 1) j [] (omega (arith, low, high))
      (omega (arith, low))

  -- taps that gain them gain what they are
  pub sights-gain : (old new : ℕ → Option (List ℕ)) →
      TapsGain (length sights) (λ j. slice_index_or sights (j - 1) []) old new →
      TapsGain servers f old new
  sights-gain old new gain =
      taps-same servers (λ j. slice_index_or sights (j - 1) []) f old new sight-is
      (subst (λ n. TapsGain n (λ j. slice_index_or sights (j - 1) []) old new) sights-counted gain)

  -- and taps that gain fronts of them
  pub sights-fronts : (old new : ℕ → Option (List ℕ)) →
      TapsGainFronts (length sights) (λ j. slice_index_or sights (j - 1) []) old new →
      TapsGainFronts servers f old new
  sights-fronts old new gain j low high =
      subst (GainsFront (old j) (new j)) (sight-is j low high)
      (gain j low (omega (arith, high, sights-counted)))

  pub sights-keep : (old new : ℕ → Option (List ℕ)) → TapsKeepBut (length sights) old new →
      TapsKeepBut servers old new
  sights-keep old new keep = subst (λ n. TapsKeepBut n old new) sights-counted keep
