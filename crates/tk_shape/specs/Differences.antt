-- The first of format and numbers in which two shapes differ.
use Rattle.std.specs.Prelude.{ℕ, ◌==◌, not, Bool, List, [], ◌∷◌, find, Option}
use Rattle.tk_shape.specs.declared.field.Field.{Field}
use Rattle.tk_shape.specs.declared.field.Field.TheVariants as field
use Rattle.tk_shape.specs.declared.shape.Shape.{Shape}
use Rattle.tk_shape.specs.declared.differs.Differs.{Differs}
use Rattle.tk_shape.specs.Numbers.{format_and_numbers}

-- what the format and the numbers of a shape are of, in their order
abbrev pub fields : List Field
fields =
    field.Format ∷ field.Servers ∷ field.Buckets ∷ field.Depth ∷ field.Retained ∷ field.Block ∷ field.Filter ∷ field.Hits
    ∷ field.Ahead ∷ field.Clients ∷ field.Phases ∷ field.Ticks ∷ field.Logs ∷ []

-- each field with the numbers that two lists have for it
abbrev pub side_by_side : List Field → List ℕ → List ℕ → List Differs
side_by_side (f ∷ fs) (a ∷ ns) (b ∷ ms) =
    record { field = f; a = a; b = b } ∷ side_by_side fs ns ms
side_by_side fs ns ms = []

-- whether the two numbers differ
abbrev pub are_apart : Differs → Bool
are_apart d = not (d.a == d.b)

-- the first of them in which the two numbers differ
abbrev pub first_difference : Shape → Shape → Option Differs
first_difference s t = find are_apart (side_by_side fields (format_and_numbers s) (format_and_numbers t))
