-- A table and a shape to begin with, where a call picks others.
use Rattle.std.specs.Prelude.{[], ◌∷◌}
use Rattle.std.proofs.Common.{refl}
use Rattle.std.specs.Int.Count.{ones}
use Rattle.atomic_table.specs.Seated.{TableId}
use Rattle.tk_shape.specs.declared.shape.Shape.{Shape}
use Rattle.tk_shape.specs.Limits.{numbers_in}
use Rattle.tk_shape.proofs.Offers.{shape_of}

abbrev pub no_table : TableId
no_table =
    record {
      words = 0;
      slots = 0;
      views_name = 0;
      atom = 0;
      block = 0;
      offset = 0;
      slot_names = [];
    }

-- the least number that each field may have
abbrev pub no_shape : Shape
unfolding ones
no_shape = shape_of (numbers_in 1 (2 ∷ 8 ∷ 1 ∷ 1 ∷ 24 ∷ 64 ∷ 1 ∷ 0 ∷ 1 ∷ 1 ∷ 1 ∷ 1 ∷ [])) refl refl
