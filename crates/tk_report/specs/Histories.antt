-- A report shows its history, and that one alone.
use Rattle.std.specs.Prelude.{◌≡◌, ℕ, ◌+◌, ◌<◌, true, List, [], ◌∷◌}
use Rattle.tk_shape.specs.declared.shape.Shape.{Shape}
use Rattle.tk_schedule.specs.declared.history.History.{History}
use Rattle.tk_shape.specs.Lengths.{turn_count}
use Rattle.tk_schedule.specs.Schedule.{IsLegal, is_closing, epoch_at}
use Rattle.tk_script.specs.declared.script.Script.{Script}
use Rattle.tk_words.specs.Words.{WordBook, BookWords}
use Rattle.tk_schedule.specs.declared.item.Item.{Item}
use Rattle.tk_schedule.specs.declared.item.Item.TheVariants.{Client, Publish}
use Rattle.tk_frames.specs.declared.write_frame.WriteFrame.{WriteFrame}
use Rattle.tk_frames.specs.declared.entry.Placed.{Placed}
use Rattle.tk_frames.specs.declared.entry.Entry.{Entry}
use Rattle.tk_frames.specs.declared.entry.Entry.TheVariants.{Write, Mark}
use Rattle.tk_report.specs.Entries.{placed_from, entries}
use Rattle.tk_report.specs.Agreement.{SameOrders}
use Rattle.tk_report.specs.Report.{report}
use Rattle.tk_report.specs.Shown.{ShowsHistory}

-- a report shows its history
abbrev pub ReportsShow : Type 0
ReportsShow =
    (S : Script) (b : WordBook) (H : History) → IsLegal S.shape H →
    ShowsHistory S.shape (report S b H) H

-- and bytes show one history at most
abbrev pub ShowsOne : Type 0
ShowsOne =
    (shape : Shape) (bytes : List ℕ) (H K : History) → ShowsHistory shape bytes H →
    ShowsHistory shape bytes K → H ≡ K

-- ---- what tells a legal history

-- two legal histories with the same orders are the same if in the turns that close a phase the same
-- epochs are read: in the others there is but one
abbrev pub OrdersAndEpochsTell : Type 0
OrdersAndEpochsTell =
    (shape : Shape) (H K : History) → IsLegal shape H → IsLegal shape K →
    SameOrders H K (turn_count shape) →
    ((g c : ℕ) → g < turn_count shape → is_closing shape g ≡ true → c < shape.clients →
    epoch_at H g c ≡ epoch_at K g c) →
    H ≡ K

-- the entries of a run tell the orders of its turns
abbrev pub EntriesTellOrders : Type 0
EntriesTellOrders =
    (S : Script) (w : BookWords) (H K : History) → IsLegal S.shape H → IsLegal S.shape K →
    entries S w H ≡ entries S w K → SameOrders H K (turn_count S.shape)

-- ---- what items a turn's entries are of

-- the item that an entry is of: a write names its client
abbrev pub item_in : Entry → Item
item_in (Write f) = Client f.client
item_in (Mark e) = Publish

abbrev pub items_in : List Placed → List Item
items_in [] = []
items_in (p ∷ ps) = item_in p.entry ∷ items_in ps

abbrev pub IsOfTurn : (ℕ → WriteFrame) → ℕ → Entry → Type 0
IsOfTurn write e (Write f) = f ≡ write f.client
IsOfTurn write e (Mark n) = n ≡ e

abbrev pub next_mark : ℕ → Entry → ℕ
next_mark e (Write f) = e
next_mark e (Mark n) = e + 1

-- Entries from a position and a mark's number on: positions and marks count up, and each write is
-- what write gives for its client.
abbrev pub AreOfTurn : (ℕ → WriteFrame) → ℕ → ℕ → List Placed → Type 0
AreOfTurn write position e [] = Unit {0}
AreOfTurn write position e (p ∷ ps) =
    (p.position ≡ position) × IsOfTurn write e p.entry
    × AreOfTurn write (position + 1) (next_mark e p.entry) ps

-- such entries are those of the items that they name
abbrev pub TurnsReadOff : Type 0
TurnsReadOff =
    (write : ℕ → WriteFrame) (position e : ℕ) (ps : List Placed) → AreOfTurn write position e ps →
    placed_from write position e (items_in ps) ≡ ps
