-- Turns, phases and histories.
use Rattle.std.specs.Prelude.{◌≡◌, ℕ, ◌+◌, ◌-◌, ◌*◌, ◌/◌, ◌%◌, ◌<◌, ◌≤◌, Bool, true, false, ◌==◌, nat_lt, if◌then◌else◌, List, [], ◌++◌, length, map, replicate, slice_index, slice_index_or, count_by}
use Rattle.std.specs.List.{range_with_len}
use Rattle.tk_shape.specs.declared.shape.Shape.{Shape}
use Rattle.tk_schedule.specs.declared.item.Item.{Item}
use Rattle.tk_schedule.specs.declared.item.Item.TheVariants.{Client, Publish}
use Rattle.tk_schedule.specs.declared.history.TurnOrder.{TurnOrder}
use Rattle.tk_schedule.specs.declared.history.History.{History}
use Rattle.tk_shape.specs.Lengths.{turn_count}

-- a turn's phase and tick, both from 1
abbrev pub phase_of : Shape → ℕ → ℕ
phase_of shape g = g / shape.ticks + 1

abbrev pub tick_of : Shape → ℕ → ℕ
tick_of shape g = g % shape.ticks + 1

-- the turn of a phase and a tick
abbrev pub turn_at : Shape → ℕ → ℕ → ℕ
turn_at shape phase tick = (phase - 1) * shape.ticks + (tick - 1)

-- whether it is the last turn of its phase
abbrev pub is_closing : Shape → ℕ → Bool
is_closing shape g = (g + 1) % shape.ticks == 0

-- how many phases are over before turn g: one less than the phase of g
abbrev pub phases_over : Shape → ℕ → ℕ
phases_over shape g = g / shape.ticks

-- ---- histories

abbrev pub blank_turn : TurnOrder
blank_turn = record { order = []; epochs = [] }

-- the order of a turn's clients and marks
abbrev pub order_at : History → ℕ → List Item
order_at H g = (slice_index_or H g blank_turn).order

-- the epoch that a client reads in a turn
abbrev pub epoch_at : History → ℕ → ℕ → ℕ
epoch_at H g c = slice_index (slice_index_or H g blank_turn).epochs c

abbrev pub is_of : ℕ → Item → Bool
is_of c (Client d) = c == d
is_of c Publish = false

abbrev pub is_mark : Item → Bool
is_mark (Client c) = false
is_mark Publish = true

-- an item is the mark, or a client below n
abbrev pub is_within : ℕ → Item → Bool
is_within n (Client c) = nat_lt c n
is_within n Publish = true

-- how many marks a turn's order has
abbrev pub marks_due : Shape → ℕ → ℕ
marks_due shape g = if is_closing shape g then 1 else 0

-- Each client writes once, the publisher marks the end of a phase and nothing else, and a read is
-- of the newest epoch before the turn, or in a closing turn of the one that the turn itself makes.
pub record IsTurn (shape : Shape) (g : ℕ) (turn : TurnOrder) : Type 0 where
  pub counted : length turn.order ≡ shape.clients + marks_due shape g
  pub each_once : (c : ℕ) → c < shape.clients → count_by (is_of c) turn.order ≡ 1
  pub marks : count_by is_mark turn.order ≡ marks_due shape g
  pub readers : length turn.epochs ≡ shape.clients
  pub newest_before : (c : ℕ) → c < shape.clients → phases_over shape g ≤ slice_index turn.epochs c
  pub none_ahead : (c : ℕ) → c < shape.clients →
      slice_index turn.epochs c ≤ phases_over shape (g + 1)

-- the history is one that a run of this shape may have
pub record IsLegal (shape : Shape) (H : History) : Type 0 where
  pub turns_counted : length H ≡ turn_count shape
  pub each_turn : (g : ℕ) → g < turn_count shape → IsTurn shape g (slice_index_or H g blank_turn)

-- a turn of the serial history: the clients by number, then the mark, and no epoch of the turn
-- itself
abbrev pub serial_turn : Shape → ℕ → TurnOrder
serial_turn shape g =
    record {
      order = map Client (range_with_len 0 shape.clients) ++ replicate (marks_due shape g) Publish;
      epochs = replicate shape.clients (phases_over shape g);
    }

unfoldable pub serial_history : Shape → History
serial_history shape = map (serial_turn shape) (range_with_len 0 (turn_count shape))
