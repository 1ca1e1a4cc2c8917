-- The machine over real states: what it is seen as, and which events may come.
use Rattle.std.specs.Prelude.{◌≡◌, ℕ, ◌-◌, ◌*◌, ◌<◌, ◌≤◌, List, [], ◌∷◌, length, map, take, drop, slice_index_or}
use Rattle.tk_shape.specs.declared.shape.Shape.{Shape}
use Rattle.tk_shape.specs.Lengths.{turn_count}
use Rattle.tk_frames.specs.declared.write_frame.WriteFrame.{WriteFrame}
use Rattle.tk_frames.specs.declared.entry.Placed.{Placed}
use Rattle.tk_frames.specs.Order.{records}
use Rattle.tk_frames.specs.Ranges.{IsWrite}
use Rattle.tk_frames.specs.InOrder.{IsOrder, mark_count}
use Rattle.tk_replica.specs.Shelf.{IsHeld}
use Rattle.tk_replica.specs.Replica.{ReplicaView, StandsFor}
use Rattle.tk_core.specs.declared.event.Event.{Event}
use Rattle.tk_core.specs.declared.event.Event.TheVariants.{Put, Mark, Apply, Show, Read}
use Rattle.tk_core.specs.Machine.{Machine, world_step}

-- an order, a replica of each server, and the epoch that is shown
pub record WorldView : Type 0 where
  pub shape : Shape
  pub order : List Placed
  pub replicas : List ReplicaView
  pub shown : ℕ

-- a world with these parts
abbrev pub world_with : Shape → List Placed → List ReplicaView → ℕ → WorldView
world_with shape order replicas shown =
    record { shape = shape; order = order; replicas = replicas; shown = shown }

abbrev pub applied_in : List ReplicaView → List ℕ
applied_in replicas = map (λ (r : ReplicaView). r.applied) replicas

abbrev pub machine_of : WorldView → Machine
machine_of w = record { order = w.order; applied = applied_in w.replicas; shown = w.shown }

-- A state stands for the first entries of an order, as many as it has applied. It keeps the epochs
-- from the one before that which is shown.
pub record Follows (shape : Shape) (order : List Placed) (shown : ℕ) (r : ReplicaView)
    : Type 0 where
  pub within : r.applied ≤ length order
  pub stands : StandsFor shape (take r.applied order) r
  pub keeps : r.floor ≡ shown - 1
  pub has : shown ≤ r.last

-- there is a state for each server, and each stands for the first entries of the order
pub record IsWorld (w : WorldView) : Type 0 where
  pub order : IsOrder w.shape w.order
  pub writes : length (records w.order) ≤ w.shape.clients * turn_count w.shape
  pub counted : length w.replicas ≡ w.shape.servers
  pub shown : w.shown ≤ mark_count w.order
  pub follow : (i : ℕ) (d : ReplicaView) → i < length w.replicas →
      Follows w.shape w.order w.shown (slice_index_or w.replicas i d)

-- a state without the epochs below e
abbrev pub released : ℕ → ReplicaView → ReplicaView
released e r = record r { floor = e; kept = drop (e - r.floor) r.kept }

-- each of these states keeps epoch e
pub record AreHolding (e : ℕ) (rs : List ReplicaView) : Type 0 where
  pub each : (k : ℕ) (d : ReplicaView) → k < length rs →
      IsHeld (slice_index_or rs k d).floor (slice_index_or rs k d).last e

-- these states are those without the epochs below e
pub record AreReleased (e : ℕ) (old new : List ReplicaView) : Type 0 where
  pub counted : length new ≡ length old
  pub each : (k : ℕ) (d : ReplicaView) → k < length old →
      slice_index_or new k d ≡ released e (slice_index_or old k d)

-- a server, by its number from 1
pub record IsServer (shape : Shape) (server : ℕ) : Type 0 where
  pub low : 1 ≤ server
  pub high : server ≤ shape.servers

pub record IsRead (shape : Shape) (server first second : ℕ) : Type 0 where
  pub server_in : IsServer shape server
  pub first_in : first < shape.buckets
  pub second_in : second < shape.buckets

-- a write in range, of which there aren't too many yet
pub record IsPut (shape : Shape) (order : List Placed) (frame : WriteFrame) : Type 0 where
  pub in_range : IsWrite shape frame
  pub few : length (records order) < shape.clients * turn_count shape

-- an event that may come
abbrev pub MayCome : Shape → Machine → Event → Type 0
MayCome shape m (Put frame) = IsPut shape m.order frame
MayCome shape m Mark = mark_count m.order < shape.phases
MayCome shape m (Apply server) = IsServer shape server
MayCome shape m Show = Unit {0}
MayCome shape m (Read server first second) = IsRead shape server first second

-- events that may come one after the other
unfoldable pub MayAllCome : Shape → Machine → List Event → Type 0
MayAllCome shape m [] = Unit {0}
MayAllCome shape m (x ∷ xs) = MayCome shape m x × MayAllCome shape (world_step shape m x).machine xs
