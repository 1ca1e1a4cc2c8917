-- What holds of the epochs that are kept, for every shape.
use Rattle.std.specs.Prelude.{◌≡◌, List}
use Rattle.tk_shape.specs.declared.shape.Shape.{Shape}
use Rattle.tk_frames.specs.InOrder.{IsOrder, mark_count}
use Rattle.tk_replica.specs.Keeping.{Change, spanning, opening, numbers_after, entries, last_released, MayAllCome}

-- Where the entries are in order and only kept epochs are released, the last epoch is the number of
-- marks, the floor is the number that was released last, and all between them are kept.
abbrev pub KeepsFromFloorToLast : Type 0
KeepsFromFloorToLast =
    (shape : Shape) (xs : List Change) → IsOrder shape (entries xs) → MayAllCome opening xs
    → numbers_after opening xs ≡ spanning (last_released 0 xs) (mark_count (entries xs))
