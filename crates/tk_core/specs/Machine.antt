-- The pure machine: an order, what each server has applied of it, and the epoch that is shown.
use Rattle.std.specs.Prelude.{ℕ, ◌+◌, ◌-◌, nat_lt, cond, List, [], ◌∷◌, ◌++◌, length, find, replicate}
use Rattle.std.specs.Prelude.{position, slice_index, slice_set, slice_index_or, Option, Some, None, option_map}
use Rattle.tk_shape.specs.declared.shape.Shape.{Shape}
use Rattle.tk_frames.specs.declared.entry.Placed.{Placed}
use Rattle.tk_frames.specs.declared.entry.Entry.TheVariants as entries
use Rattle.tk_frames.specs.Order.{before, is_mark_of}
use Rattle.tk_table.specs.Table.{layout, blocks_of}
use Rattle.tk_frames.specs.InOrder.{mark_count}
use Rattle.tk_core.specs.declared.event.Event.{Event}
use Rattle.tk_core.specs.declared.event.Event.TheVariants.{Put, Mark, Apply, Show, Read}
use Rattle.tk_core.specs.declared.reply.Reply.{Reply}
use Rattle.tk_core.specs.declared.reply.Reply.TheVariants as replies

pub record Machine : Type 0 where
  pub order : List Placed
  pub applied : List ℕ
  pub shown : ℕ

abbrev pub new_machine : Shape → Machine
new_machine shape = record { order = []; applied = replicate shape.servers 0; shown = 0 }

-- a machine, and the reply that came with it
pub record Step : Type 0 where
  pub machine : Machine
  pub reply : Reply

abbrev pub stays : Machine → Reply → Step
stays m reply = record { machine = m; reply = reply }

abbrev pub applied_by : Machine → ℕ → ℕ
applied_by m server = slice_index m.applied (server - 1)

abbrev pub with_entry : Machine → Placed → Machine
with_entry m p = record m { order = m.order ++ p ∷ [] }

-- the next mark is shown where each server has applied it; else the first that hasn't is named
abbrev pub show_mark : Machine → Option ℕ → Step
show_mark m None =
    record { machine = record m { shown = m.shown + 1 }; reply = replies.Shown (m.shown + 1) }
show_mark m (Some j) = stays m (replies.NotYet (j + 1) (slice_index m.applied j))

-- the mark that is shown next stands at this position
abbrev pub show_next : Machine → Option ℕ → Step
show_next m None = stays m replies.NoMark
show_next m (Some at) = show_mark m (position (λ n. nat_lt n at) m.applied)

-- the position of the first mark that isn't shown
abbrev pub next_mark : Machine → Option ℕ
next_mark m = option_map (λ (p : Placed). p.position) (find (is_mark_of (m.shown + 1)) m.order)

-- a bucket of the shown epoch
abbrev pub shown_bucket : Shape → Machine → ℕ → List ℕ
shown_bucket shape m i = slice_index_or (blocks_of (layout shape (before m.order m.shown))) i []

-- what an event does, and the reply to it
unfoldable pub world_step : Shape → Machine → Event → Step
world_step shape m (Put frame) =
    let at = length m.order + 1 in
    record {
      machine = with_entry m (record { position = at; entry = entries.Write frame });
      reply = replies.Placed at;
    }
world_step shape m Mark =
    let at = length m.order + 1 in
    let e = mark_count m.order + 1 in
    record {
      machine = with_entry m (record { position = at; entry = entries.Mark e });
      reply = replies.Marked at e;
    }
world_step shape m (Apply server) =
    let next = applied_by m server + 1 in
    cond (nat_lt (applied_by m server) (length m.order))
    (record {
      machine = record m { applied = slice_set m.applied (server - 1) next };
      reply = replies.Applied next;
    })
    (stays m replies.UpToDate)
world_step shape m Show = show_next m (next_mark m)
world_step shape m (Read server first second) =
    stays m (replies.Blocks m.shown (shown_bucket shape m first) (shown_bucket shape m second))

-- the replies to a list of events, and the machine after it
unfoldable pub replies_of : Shape → Machine → List Event → List Reply
replies_of shape m [] = []
replies_of shape m (x ∷ xs) =
    (world_step shape m x).reply ∷ replies_of shape (world_step shape m x).machine xs

unfoldable pub machine_after : Shape → Machine → List Event → Machine
machine_after shape m [] = m
machine_after shape m (x ∷ xs) = machine_after shape (world_step shape m x).machine xs
