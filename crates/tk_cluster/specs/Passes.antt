-- What a pass knows, and what each call does to it.
use Rattle.std.specs.Prelude.{◌≡◌, ◌⊎◌, ℕ, ◌+◌, ◌<◌, ◌≤◌, Some, slice_get, List, [], ◌∷◌, ◌++◌, length, map}
use Rattle.std.specs.List.{range_with_len}
use Rattle.std.specs.Arc.{arc_value}
use Rattle.std.specs.declared.sync.Arc.{Arc}
use Rattle.std.specs.declared.alloc.Global.{Global}
use mathlib.Core.List.{IsPrefix}
use Rattle.atomic_table.specs.Seated.{TableId}
use Rattle.tk_shape.specs.declared.shape.Shape.{Shape}
use Rattle.tk_frames.specs.declared.entry.Placed.{Placed}
use Rattle.tk_frames.specs.declared.entry.Entry.TheVariants.{Write}
use Rattle.tk_frames.specs.declared.write_frame.WriteFrame.{WriteFrame}
use Rattle.tk_order.specs.Legality.{of, placed, with_entry}
use Rattle.tk_order.specs.Seats.{Seated, seated}
use Rattle.tk_board.specs.Boards.{Known}
use Rattle.tk_cluster.specs.declared.set.EpochSet.{EpochSet}
use Rattle.tk_cluster.specs.Refusals.{SpellsWrite}

-- of which board, the sets of it that are known, the greatest number that was pinned or told of,
-- and all numbers that were pinned
pub record Reading : Type 0 where
  pub board : TableId
  pub shown : List EpochSet
  pub known : ℕ
  pub pinned : List ℕ

-- a client's pass: the list of entries that it has seen, and what it reads
pub record Passing : Type 0 where
  pub client : ℕ
  pub seen : List Placed
  pub reads : Reading

-- the entries that the pass ordered
abbrev pub own : Passing → List Placed
own a = of (a.client + 1) a.seen

-- what lies in a pass: its seat has its number, and the set that it holds is the one that it knows
pub record IsPass (shape : Shape) (seat : Seated) (client : ℕ) (reader : Known EpochSet)
    (held : Arc EpochSet Global) : Type 0 where
  pub number : seat.number ≡ Some (client + 1)
  pub inside : client < shape.clients
  pub set : slice_get reader.list (arc_value held).number ≡ Some (arc_value held)

-- the pass's seat, and its reader
abbrev pub seat_of : Passing → Seated
seat_of a = seated a.seen (Some (a.client + 1))

abbrev pub reader_of : Passing → Known EpochSet
reader_of a = record { board = a.reads.board; list = a.reads.shown }

-- ---- write

-- the pass ordered this write, which stands last in what it has seen
pub record Wrote (a : Passing) (w : WriteFrame) (b : Passing) : Type 0 where
  pub client : b.client ≡ a.client
  pub reads : b.reads ≡ a.reads
  pub before : List Placed
  pub seen : IsPrefix a.seen before
  pub after : b.seen ≡ with_entry before (Write w)
  pub own : own b ≡ own a ++ placed before (Write w) ∷ []

-- the bytes spell a write of the pass's client, which it ordered
pub record WroteBytes (shape : Shape) (bytes : List ℕ) (a b : Passing) : Type 0 where
  pub write : WriteFrame
  pub spells : SpellsWrite shape bytes write
  pub of_client : write.client ≡ a.client
  pub wrote : Wrote a write b

-- it ordered nothing, and may have seen more
pub record SeesMore (a b : Passing) : Type 0 where
  pub client : b.client ≡ a.client
  pub reads : b.reads ≡ a.reads
  pub seen : IsPrefix a.seen b.seen
  pub own : own b ≡ own a

-- ---- pin and learn

-- it pinned this set of the list that it knows
pub record Pins (a : Reading) (most : ℕ) (set : EpochSet) (b : Reading) : Type 0 where
  pub board : b.board ≡ a.board
  pub shown : IsPrefix a.shown b.shown
  pub least : a.known ≤ b.known
  pub greatest : b.known ≤ most
  pub shows : slice_get b.shown b.known ≡ Some set
  pub number : set.number ≡ b.known
  pub pinned : b.pinned ≡ a.pinned ++ b.known ∷ []

-- it pinned nothing, and may know more sets
pub record Knows (a b : Reading) : Type 0 where
  pub board : b.board ≡ a.board
  pub shown : IsPrefix a.shown b.shown
  pub known : b.known ≡ a.known
  pub pinned : b.pinned ≡ a.pinned

-- It was told of the sets of a list, which it knows now. Of the number that it knew and that of the
-- last of these sets it knows the greater.
pub record Learns (a : Reading) (told : Known EpochSet) (b : Reading) : Type 0 where
  pub board : b.board ≡ a.board
  pub shown : IsPrefix a.shown b.shown
  pub hears : IsPrefix told.list b.shown
  pub one : (b.shown ≡ a.shown) ⊎ (b.shown ≡ told.list)
  pub least : a.known ≤ b.known
  pub last : length told.list ≤ b.known + 1
  pub known : (b.known ≡ a.known) ⊎ (b.known + 1 ≡ length told.list)
  pub pinned : b.pinned ≡ a.pinned

-- the same pass, of which only what it reads changed
pub record ReadsOnly (step : Reading → Reading → Type 0) (a b : Passing) : Type 0 where
  pub client : b.client ≡ a.client
  pub seen : b.seen ≡ a.seen
  pub reads : step a.reads b.reads

-- ---- any call

-- the pass of the same client, of the same board
pub record Stays (a b : Passing) : Type 0 where
  pub client : b.client ≡ a.client
  pub board : b.reads.board ≡ a.reads.board

-- ---- meet

-- the pass has seen just this list, which begins with what it had seen
pub record MeetsAt (list : List Placed) (a b : Passing) : Type 0 where
  pub client : b.client ≡ a.client
  pub reads : b.reads ≡ a.reads
  pub begins : IsPrefix a.seen list
  pub seen : b.seen ≡ list
  pub own : own b ≡ own a

-- ---- open

-- the seat of a client in a new order, and those of the clients from a on
abbrev pub seat_for : ℕ → Seated
seat_for c = seated [] (Some (c + 1))

abbrev pub seats_for : ℕ → ℕ → List Seated
seats_for a n = map seat_for (range_with_len a n)

-- the pass of a client that knows the first set of a board
abbrev pub fresh_reading : TableId → EpochSet → Reading
fresh_reading board first =
    record { board = board; shown = first ∷ []; known = 0; pinned = [] }

abbrev pub fresh : TableId → EpochSet → ℕ → Passing
fresh board first c = record { client = c; seen = []; reads = fresh_reading board first }
