-- Lines of a history as they were read.
use Rattle.std.specs.Prelude.{Bool, true, false, cond, List, [], ◌∷◌, map}
use Rattle.tk_schedule.specs.declared.raw.RawLine.{RawLine}
use Rattle.tk_schedule.specs.declared.raw.RawKind.{RawKind}
use Rattle.tk_schedule.specs.declared.raw.RawKind.TheVariants.{Order, Reads, End}

abbrev pub is_end : RawKind → Bool
is_end (Order phase tick items) = false
is_end (Reads phase tick epochs) = false
is_end End = true

abbrev pub is_none_left : List RawLine → Bool
is_none_left [] = true
is_none_left (l ∷ ls) = false

-- there is an End, and after the first one nothing: the last line alone is an End
abbrev pub ends_once : List RawLine → Bool
ends_once [] = false
ends_once (l ∷ ls) = cond (is_end l.kind) (is_none_left ls) (ends_once ls)

-- what lines say, without their numbers
abbrev pub kinds : List RawLine → List RawKind
kinds raw = map (λ l. l.kind) raw
