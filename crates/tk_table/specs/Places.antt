-- When a write surely finds a place.
use Rattle.std.specs.Prelude.{◌≡◌, ◌<◌, false, List, length}
use Rattle.tk_shape.specs.declared.shape.Shape.{Shape}
use Rattle.tk_frames.specs.Order.{Record}
use Rattle.tk_table.specs.Table.{retained, unexpired, is_displaced}

-- w comes after R, and fewer records stay retained beside it than a bucket has slots
abbrev pub FewFindPlaces : Type 0
FewFindPlaces =
    (shape : Shape) (R : List Record) (w : Record) →
    length (unexpired shape R w (retained shape R)) < shape.depth →
    is_displaced shape R w ≡ false
