-- What holds of the machine, for every shape.
use Rattle.std.specs.Prelude.{◌≡◌, ℕ, ◌*◌, ◌≤◌, List, [], ◌++◌, length, replicate, slice_index_or}
use Rattle.tk_shape.specs.declared.shape.Shape.{Shape}
use Rattle.tk_frames.specs.declared.entry.Placed.{Placed}
use Rattle.tk_shape.specs.Lengths.{turn_count}
use Rattle.tk_frames.specs.Order.{before, records}
use Rattle.tk_table.specs.Table.{layout, blocks_of}
use Rattle.tk_frames.specs.InOrder.{IsOrder, mark_count}
use Rattle.tk_core.specs.declared.event.Event.TheVariants.{Read}
use Rattle.tk_core.specs.declared.reply.Reply.TheVariants.{Blocks}
use Rattle.tk_core.specs.Machine.{Machine, new_machine, world_step, machine_after}
use Rattle.tk_core.specs.World.{MayAllCome}
use Rattle.tk_core.specs.Events.{events, last_mark}

-- a read of two buckets is the same at any two servers
abbrev pub ServersReadAlike : Type 0
ServersReadAlike =
    (shape : Shape) (m : Machine) (i j first second : ℕ)
    → world_step shape m (Read i first second) ≡ world_step shape m (Read j first second)

-- The events of an order may come one after the other, if it has no more writes than a run has.
abbrev pub EventsMayCome : Type 0
EventsMayCome =
    (shape : Shape) (J : List Placed) → IsOrder shape J
    → length (records J) ≤ shape.clients * turn_count shape
    → MayAllCome shape (new_machine shape) (events shape J)

-- After the events of an order the machine has that order, each server has applied it up to its
-- last mark, and that mark's epoch is shown.
abbrev pub EventsMakeOrders : Type 0
EventsMakeOrders =
    (shape : Shape) (J : List Placed) → IsOrder shape J
    → machine_after shape (new_machine shape) (events shape J) ≡ record {
      order = J;
      applied = replicate shape.servers (last_mark J);
      shown = mark_count J;
    }

-- After the events of a front of an order each server reads, in the epoch of the front's last
-- mark, the layout of what stands before that mark in the whole order.
abbrev pub EpochsAreRead : Type 0
EpochsAreRead =
    (shape : Shape) (E F : List Placed) (server first second : ℕ) → IsOrder shape (E ++ F)
    → let e = mark_count E in
    let blocks = blocks_of (layout shape (before (E ++ F) e)) in
    (world_step shape (machine_after shape (new_machine shape) (events shape E))
    (Read server first second)).reply
    ≡ Blocks e (slice_index_or blocks first []) (slice_index_or blocks second [])
