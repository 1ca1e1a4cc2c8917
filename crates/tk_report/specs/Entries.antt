-- The order that a history gives.
use Rattle.std.specs.Prelude.{ℕ, zero, suc, ◌+◌, List, [], ◌∷◌, ◌++◌, length, count_by, option_map}
use Rattle.tk_schedule.specs.declared.item.Item.{Item}
use Rattle.tk_schedule.specs.declared.item.Item.TheVariants.{Client, Publish}
use Rattle.tk_schedule.specs.declared.history.History.{History}
use Rattle.tk_script.specs.declared.script.Script.{Script}
use Rattle.tk_frames.specs.declared.write_frame.WriteFrame.{WriteFrame}
use Rattle.tk_frames.specs.declared.entry.Placed.{Placed}
use Rattle.tk_frames.specs.declared.entry.Entry.TheVariants.{Write, Mark}
use Rattle.tk_shape.specs.Lengths.{turn_count}
use Rattle.tk_schedule.specs.Schedule.{order_at}
use Rattle.tk_words.specs.Words.{BookWords}
use Rattle.tk_client.specs.Writes.{write_of}
use Rattle.tk_report.specs.Queues.{waiting_of}
use Rattle.tk_frames.specs.Order.{is_mark_entry}
use Rattle.tk_script.specs.Sent.{sent}

-- what a client writes in a turn
unfoldable pub write_at : Script → BookWords → ℕ → ℕ → WriteFrame
write_at S w g c = write_of w g c (option_map waiting_of (sent S g c))

-- a turn's entries, from a position and a mark's number on; write gives each client's write of the
-- turn
unfoldable pub placed_from : (ℕ → WriteFrame) → ℕ → ℕ → List Item → List Placed
placed_from write position e [] = []
placed_from write position e (Client c ∷ items) =
    record { position = position; entry = Write (write c) }
    ∷ placed_from write (position + 1) e items
placed_from write position e (Publish ∷ items) =
    record { position = position; entry = Mark e }
    ∷ placed_from write (position + 1) (e + 1) items

-- a turn's entries after those of the turns before: positions from 1, marks numbered from 1
abbrev pub placed_after : (ℕ → WriteFrame) → List Placed → List Item → List Placed
placed_after write E items = placed_from write (length E + 1) (count_by is_mark_entry E + 1) items

-- the entries of the turns before turn g, where write gives each turn's and client's write
unfoldable pub entries_before : (ℕ → ℕ → WriteFrame) → History → ℕ → List Placed
entries_before write H zero = []
entries_before write H (suc g) =
    let E = entries_before write H g in
    E ++ placed_after (write g) E (order_at H g)

-- the entries of turn g
abbrev pub entries_at : (ℕ → ℕ → WriteFrame) → History → ℕ → List Placed
entries_at write H g = placed_after (write g) (entries_before write H g) (order_at H g)

-- the whole order of a run
abbrev pub entries : Script → BookWords → History → List Placed
entries S w H = entries_before (write_at S w) H (turn_count S.shape)
