-- Format 2 has 16,384 buckets where format 1 has 4,096.
use Rattle.std.specs.Prelude.{◌≡◌, ℕ, List, [], ◌∷◌, Some, false}
use Rattle.std.proofs.Common.{refl}
use Rattle.std.specs.Int.Count.{ones}
use Rattle.tk_shape.specs.declared.field.Field.TheVariants as field
use Rattle.tk_shape.specs.declared.shape.Shape.{Shape}
use Rattle.tk_shape.specs.Limits.{broken, limit, numbers_in}
use Rattle.tk_shape.proofs.InRange.{shape_of}

abbrev wide_numbers : List ℕ
wide_numbers = 3 ∷ 16384 ∷ 4 ∷ 32768 ∷ 48 ∷ 65536 ∷ 2 ∷ 4 ∷ 2 ∷ 2 ∷ 2 ∷ 2 ∷ []

pub wide : Shape
unfolding ones
wide = shape_of (numbers_in 2 wide_numbers) refl refl

pub too_wide : broken (numbers_in 1 wide_numbers) ≡ Some (limit field.Buckets 16384 false)
unfolding ones
too_wide = refl
