-- Blocks of zeros, which are of one length.
use Rattle.std.proofs.Common.{ℕ, zero, suc}
use Rattle.tk_kernel.specs.Pieces.{AllSized}
use Rattle.tk_kernel.proofs.Offers.{length-zeros}
use Rattle.tk_shards.specs.Ranged.{zero_blocks}

pub AllSized-zeros : (width n : ℕ) → AllSized width (zero_blocks width n)
AllSized-zeros width zero = tt
AllSized-zeros width (suc n) = (length-zeros width, AllSized-zeros width n)
