-- The events by which an order comes about, each of its marks being applied by all and shown.
use Rattle.std.specs.Prelude.{ℕ, ◌-◌, List, [], ◌∷◌, ◌++◌, replicate, flat_map}
use Rattle.std.specs.List.{range_with_len}
use Rattle.tk_shape.specs.declared.shape.Shape.{Shape}
use Rattle.tk_frames.specs.declared.entry.Placed.{Placed}
use Rattle.tk_frames.specs.declared.entry.Entry.{Entry}
use Rattle.tk_frames.specs.declared.entry.Entry.TheVariants.{Write as Writes, Mark as Marks}
use Rattle.tk_core.specs.declared.event.Event.{Event}
use Rattle.tk_core.specs.declared.event.Event.TheVariants.{Put, Mark, Apply, Show}

-- each server applies so many entries
abbrev pub applies : Shape → ℕ → List Event
applies shape missing = flat_map (λ server. replicate missing (Apply server))
    (range_with_len 1 shape.servers)

-- the events of an entry at a position, where all servers have applied the first done entries
abbrev pub entry_events : Shape → ℕ → ℕ → Entry → List Event
entry_events shape done at (Writes frame) = Put frame ∷ []
entry_events shape done at (Marks e) = Mark ∷ (applies shape (at - done) ++ (Show ∷ []))

-- how many entries all servers have applied then
abbrev pub done_after : ℕ → ℕ → Entry → ℕ
done_after done at (Writes frame) = done
done_after done at (Marks e) = at

unfoldable pub events_from : Shape → ℕ → List Placed → List Event
events_from shape done [] = []
events_from shape done (p ∷ ps) =
    entry_events shape done p.position p.entry
    ++ events_from shape (done_after done p.position p.entry) ps

-- the events of an order
abbrev pub events : Shape → List Placed → List Event
events shape J = events_from shape 0 J

-- the position of the last mark; 0 where there is none
abbrev pub last_mark_from : ℕ → List Placed → ℕ
last_mark_from done [] = done
last_mark_from done (p ∷ ps) = last_mark_from (done_after done p.position p.entry) ps

abbrev pub last_mark : List Placed → ℕ
last_mark J = last_mark_from 0 J
