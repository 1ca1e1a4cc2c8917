-- Sums over all blocks.
use Rattle.std.proofs.Common.{◌≡◌, ℕ, List, length}
use Rattle.tk_kernel.specs.Chosen.{chosen_sum, chosen_from}
use Rattle.tk_kernel.specs.Pieces.{AllSized}
use Rattle.tk_kernel.proofs.Offers.{length-xor_all, AllSized-chosen_from}

-- each is as long as a block
pub sum-sized : (size : ℕ) (blocks : List (List ℕ)) (vector : List ℕ) → AllSized size blocks →
    length (chosen_sum size blocks vector) ≡ size
unfolding chosen_sum
sum-sized size blocks vector sized =
    length-xor_all size (chosen_from 0 blocks vector)
    (AllSized-chosen_from size 0 blocks vector sized)
