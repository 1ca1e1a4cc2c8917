-- All pairs of bits, computed.
use Rattle.std.specs.Prelude.{◌≡◌, ◌==◌, [], ◌∷◌, slice_index}
use Rattle.std.specs.Str.{bytes_eq}
use Rattle.std.proofs.Common.{refl}
use Rattle.tk_counts.specs.Counts.{all_lists, count_lists}

pub pairs_of_bits : all_lists 2 2
    ≡ (0 ∷ 0 ∷ []) ∷ (0 ∷ 1 ∷ []) ∷ (1 ∷ 0 ∷ []) ∷ (1 ∷ 1 ∷ []) ∷ []
unfolding all_lists
pairs_of_bits = refl

-- two of them have equal bits
pub equal_bits : count_lists 2 2 (λ xs. slice_index xs 0 == slice_index xs 1) ≡ 2
unfolding all_lists
equal_bits = refl

-- one of them is two zeros; made one, which is no change that is one to one, all are
pub zeros : count_lists 2 2 (bytes_eq (0 ∷ 0 ∷ [])) ≡ 1
unfolding all_lists
zeros = refl

pub made_zeros : count_lists 2 2 (λ xs. bytes_eq (0 ∷ 0 ∷ []) (0 ∷ 0 ∷ [])) ≡ 4
unfolding all_lists
made_zeros = refl
