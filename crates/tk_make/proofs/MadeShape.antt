-- The numbers of the shape are in range.
use Rattle.std.proofs.Common.{refl}
use Rattle.std.specs.Int.Count.{ones}
use Rattle.tk_shape.specs.Limits.{numbers_in}
use Rattle.tk_shape.specs.Ranges.{IsShape}
use Rattle.tk_shape.proofs.Offers.{in_range}
use Rattle.tk_make.specs.Making.{made_numbers}

pub in-range : IsShape 1 3 256 4 512 256 4096 3 4 12 8 4 4
unfolding ones
in-range = in_range (numbers_in 1 made_numbers) refl refl
