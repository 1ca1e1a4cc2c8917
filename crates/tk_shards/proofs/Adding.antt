-- What the bytes of a range add to a sum.
use Rattle.std.proofs.Common.{◌≡◌, refl, ℕ, ◌+◌, ◌*◌, ◌/◌, ◌%◌, ◌≤◌, List, length, ap, ◌∙◌, arith}
use Rattle.std.proofs.Math.Nat.{mul-mod_left, mul-div_cancel}
use Rattle.tk_kernel.specs.Xor.{xor_all}
use Rattle.tk_kernel.specs.Pieces.{all_pieces}
use Rattle.tk_kernel.specs.Chosen.{chosen_from}
use Rattle.tk_shards.specs.Ranged.{padded, part_of}
use Rattle.tk_shards.specs.Packing.{ranged, IsPacked}
use Rattle.tk_shards.proofs.Padding.{padded-sum, length-padded}
use Rattle.tk_shards.proofs.Packed.{AllSized-ranged}

module _ (width first count : ℕ) (bytes : List ℕ) (packed : IsPacked width first count bytes) where
  pub whole-blocks : length bytes % width ≡ 0
  whole-blocks =
      ap (λ n. n % width) packed.whole
      ∙ mul-mod_left (length (padded (ranged width first count bytes))) width

  pub count-blocks : length bytes / width ≡ length (padded (ranged width first count bytes))
  count-blocks =
      ap (λ n. n / width) packed.whole
      ∙ mul-div_cancel (length (padded (ranged width first count bytes))) packed.some

  pub eights-blocks : length bytes / width % 8 ≡ 0
  eights-blocks = omega (arith, count-blocks, length-padded (ranged width first count bytes))

  -- a vector that reaches over the range has all bytes of its eights
  pub reach-blocks : (n : ℕ) → first + length (ranged width first count bytes).blocks ≤ 8 * n →
      first / 8 + length bytes / width / 8 ≤ n
  reach-blocks n reach =
      omega (arith, reach, count-blocks, length-padded (ranged width first count bytes))

  -- what a vector chooses of them is its part
  pub chosen-blocks : (v : List ℕ) →
      xor_all width (chosen_from (8 * (first / 8)) (all_pieces width bytes) v)
      ≡ part_of (ranged width first count bytes) v
  chosen-blocks v =
      ap (λ (vs : List (List ℕ)). xor_all width (chosen_from (8 * (first / 8)) vs v)) packed.pieces
      ∙ padded-sum (ranged width first count bytes) v (first / 8)
      (AllSized-ranged width first count bytes packed) refl
