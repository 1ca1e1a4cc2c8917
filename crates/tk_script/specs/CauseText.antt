-- Why a line is refused, as a text.
use Rattle.std.specs.Prelude.{ℕ, List, ◌∷◌, ◌++◌, codes, decimal}
use Rattle.tk_shape.specs.Names.{field_name}
use Rattle.tk_script.specs.declared.cause.Cause.{Cause}
use Rattle.tk_script.specs.declared.cause.Cause.TheVariants as cause

-- a number after a space
abbrev pub spaced : ℕ → List ℕ
spaced n = 0x20 ∷ decimal n

-- why a line is refused
abbrev pub cause_text : Cause → List ℕ
cause_text cause.Early = codes "early"
cause_text cause.Form = codes "form"
cause_text (cause.Shape f value) = codes "shape " ++ field_name f ++ spaced value
cause_text (cause.Number value) = codes "number" ++ spaced value
cause_text cause.Order = codes "order"
cause_text (cause.Room room) = codes "room" ++ spaced room
cause_text (cause.Text at) = codes "text" ++ spaced at
cause_text cause.After = codes "after"
