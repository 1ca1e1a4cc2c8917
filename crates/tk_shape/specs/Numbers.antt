-- A shape's numbers in their order.
use Rattle.std.specs.Prelude.{ℕ, List, [], ◌∷◌}
use Rattle.tk_shape.specs.declared.shape.Shape.{Shape}

abbrev pub numbers_of : Shape → List ℕ
numbers_of shape =
    shape.servers ∷ shape.buckets ∷ shape.depth ∷ shape.retained ∷ shape.block ∷ shape.filter_bits ∷ shape.hits
    ∷ shape.ahead ∷ shape.clients ∷ shape.phases ∷ shape.ticks ∷ shape.logs ∷ []

-- its format, and then its numbers
abbrev pub format_and_numbers : Shape → List ℕ
format_and_numbers shape = shape.format ∷ numbers_of shape
