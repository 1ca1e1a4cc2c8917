-- A replica's state beside a seat of the order that it follows.
use Rattle.std.specs.Prelude.{◌≡◌, ℕ, ◌≤◌, min, max, List, length, take, None}
use Rattle.tk_shape.specs.declared.shape.Shape.{Shape}
use Rattle.tk_frames.specs.declared.entry.Placed.{Placed}
use Rattle.tk_frames.specs.InOrder.{mark_count}
use Rattle.tk_order.specs.Seats.{Seated}
use Rattle.tk_replica.specs.declared.epoch.Epoch.{Epoch}
use Rattle.tk_replica.specs.Epochs.{IsEpochOf}
use Rattle.tk_replica.specs.Replica.{ReplicaView, StandsFor}

-- how many marks stand among the first entries
abbrev pub marks_among : ℕ → List Placed → ℕ
marks_among upto E = mark_count (take upto E)

-- it is the epoch of the last mark among an order's first entries
abbrev pub IsEpochAt : Shape → List Placed → ℕ → Epoch → Type 0
IsEpochAt shape E upto epoch = IsEpochOf shape E (marks_among upto E) epoch

-- a state, and the list that its seat has seen
pub record Following : Type 0 where
  pub state : ReplicaView
  pub list : List Placed

abbrev pub following : ReplicaView → List Placed → Following
following state list = record { state = state; list = list }

-- the entries that were applied
abbrev pub applied_in : Following → List Placed
applied_in f = take f.state.applied f.list

-- the first epoch that is kept after a release: never a lesser one, nor one above the last
abbrev pub floor_after : ℕ → ReplicaView → ℕ
floor_after e s = max s.floor (min e s.last)

-- The state stands for the first entries that the seat has seen. The seat has no number.
pub record IsFollowing (shape : Shape) (state : ReplicaView) (seat : Seated) : Type 0 where
  pub unnumbered : seat.number ≡ None
  pub within : state.applied ≤ length seat.seen
  pub stands : StandsFor shape (take state.applied seat.seen) state
