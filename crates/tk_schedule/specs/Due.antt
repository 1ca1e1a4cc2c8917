-- Which lines of a history are due, and the first that isn't.
use Rattle.std.specs.Prelude.{ℕ, ◌+◌, ◌==◌, nat_le, Bool, true, false, ◌&&◌, cond, List, [], ◌∷◌, ◌++◌, length, count_by, flat_map, Option, Some, None}
use Rattle.std.specs.List.{list_all, range_with_len}
use Rattle.tk_shape.specs.declared.shape.Shape.{Shape}
use Rattle.tk_shape.specs.Lengths.{turn_count}
use Rattle.tk_schedule.specs.declared.item.Item.{Item}
use Rattle.tk_schedule.specs.declared.raw.RawLine.{RawLine}
use Rattle.tk_schedule.specs.declared.raw.RawKind.{RawKind}
use Rattle.tk_schedule.specs.declared.raw.RawKind.TheVariants.{Order, Reads, End}
use Rattle.tk_schedule.specs.Schedule.{phase_of, tick_of, is_closing, phases_over, is_of, is_mark, marks_due}

-- what a line may be due to say: the order of a turn, its epochs, or the end
pub data Due : Type 0 where
  order_of : (turn : ℕ) → Due
  epochs_of : (turn : ℕ) → Due
  the_end : Due

-- the order of a turn, and after that of a closing one its epochs
abbrev pub turn_due : Shape → ℕ → List Due
turn_due shape g = order_of g ∷ cond (is_closing shape g) (epochs_of g ∷ []) []

-- the lines due: those of each turn, and then the end
abbrev pub all_due : Shape → List Due
all_due shape = flat_map (turn_due shape) (range_with_len 0 (turn_count shape)) ++ the_end ∷ []

abbrev pub is_turn_of : Shape → ℕ → ℕ → ℕ → Bool
is_turn_of shape g phase tick = (phase == phase_of shape g) && (tick == tick_of shape g)

-- each client once, and the mark once in a closing turn
abbrev pub is_order : Shape → ℕ → List Item → Bool
is_order shape g items =
    (length items == shape.clients + marks_due shape g)
    && list_all (λ c. count_by (is_of c) items == 1) (range_with_len 0 shape.clients)
    && (count_by is_mark items == marks_due shape g)

-- an epoch for each client, the last one before the turn or the turn's own
abbrev pub are_epochs : Shape → ℕ → List ℕ → Bool
are_epochs shape g epochs =
    (length epochs == shape.clients)
    && list_all (λ e. nat_le (phases_over shape g) e && nat_le e (phases_over shape (g + 1))) epochs

-- whether a line is the one that is due
abbrev pub is_due : Shape → Due → RawKind → Bool
is_due shape (order_of g) (Order phase tick items) =
    is_turn_of shape g phase tick && is_order shape g items
is_due shape (epochs_of g) (Reads phase tick epochs) =
    is_turn_of shape g phase tick && are_epochs shape g epochs
is_due shape the_end End = true
is_due shape _ _ = false

-- the number of the first line that isn't the one due
abbrev pub first_bad : Shape → List Due → List RawLine → Option ℕ
first_bad shape [] ls = None
first_bad shape (d ∷ ds) [] = None
first_bad shape (d ∷ ds) (l ∷ ls) =
    cond (is_due shape d l.kind) (first_bad shape ds ls) (Some l.line)

-- the first bad line of a history, none where it is legal
unfoldable pub bad_line : Shape → List RawLine → Option ℕ
bad_line shape raw = first_bad shape (all_due shape) raw
