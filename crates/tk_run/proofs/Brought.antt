-- What a turn puts after the entries so far.
use Rattle.std.proofs.Common.{◌≡◌, ℕ, zero, suc, ◌+◌, ◌<◌, ◌≤◌, List, [], ◌∷◌, length, ap, sym, subst, arith, All}
use Rattle.std.specs.Prelude.{slice_index_or}
use Rattle.tk_shape.specs.declared.shape.Shape.{Shape}
use Rattle.tk_frames.specs.declared.write_frame.WriteFrame.{WriteFrame}
use Rattle.tk_frames.specs.declared.entry.Placed.{Placed}
use Rattle.tk_frames.specs.InOrder.{mark_count, IsOrderFrom}
use Rattle.tk_schedule.specs.Schedule.{marks_due}
use Rattle.tk_order.specs.Legality.{of}
use Rattle.tk_report.specs.Entries.{placed_from}
use Rattle.tk_report.specs.Histories.{items_in}
use Rattle.tk_run.specs.declared.pinned_write.PinnedWrite.{PinnedWrite}
use Rattle.tk_run.specs.Ran.{turn_of}
use Rattle.tk_run.proofs.EntryLists.{from_ranged, Ranged, count_all}
use Rattle.tk_run.proofs.TurnItems.{AllOwn, OwnUnder, all_own, read_off, AtPlaces, order_built, place_within}
use Rattle.tk_run.proofs.Steps.{entry_on}

-- ---- the entries of a turn

-- what stands under each client's number
each_one : (write : ℕ → WriteFrame) (E : List Placed) (off : ℕ) (ds : List PinnedWrite) →
    AtPlaces write E off ds → (k : ℕ) → k < length ds → (c : ℕ) → c ≡ off + k →
    (d : PinnedWrite) × (of (c + 1) E ≡ entry_on write c d ∷ [])
each_one write E off [] at k low c is = absurd (omega (arith, low))
each_one write E off (d ∷ ds) at zero low c is =
    let same : off ≡ c = omega (arith, is) in
    (d, subst (λ n. of (n + 1) E ≡ entry_on write n d ∷ []) same at.0)
each_one write E off (d ∷ ds) at (suc k) low c is =
    each_one write E (off + 1) ds at.1 k (omega (arith, low)) c (omega (arith, is))

-- what a turn with these deeds put after a list, in a legal order
pub record Brings (shape : Shape) (write : ℕ → WriteFrame) (g : ℕ) (E T : List Placed)
    (ds : List PinnedWrite) : Type 0 where
  pub order : IsOrderFrom shape (length E + 1) (mark_count E + 1) T
  pub counted : length ds ≡ shape.clients
  pub places : AtPlaces write T 0 ds
  pub marked : length (of 0 T) ≡ marks_due shape g

-- the write of a deed stands among the next so many entries
abbrev pub StandsIn : ℕ → ℕ → PinnedWrite → Type 0
StandsIn start count d = (start < d.position) × (d.position ≤ start + count)

module _ {shape : Shape} {write : ℕ → WriteFrame} {g : ℕ} {E T : List Placed} {ds : List PinnedWrite}
    (own_write : (c : ℕ) → (write c).client ≡ c) (brings : Brings shape write g E T ds) where
  abbrev one_under : (c : ℕ) → c < shape.clients →
      (d : PinnedWrite) × (of (c + 1) T ≡ entry_on write c d ∷ [])
  one_under c low =
      each_one write T 0 ds brings.places c (omega (arith, low, brings.counted)) c (omega arith)

  pub one_counted : (c : ℕ) → c < shape.clients → length (of (c + 1) T) ≡ 1
  one_counted c low = ap length (one_under c low).1

  ranged : Ranged shape.clients T
  ranged = from_ranged shape (length E + 1) (mark_count E + 1) T brings.order

  -- there is one for each client, and the mark
  pub brings_counted : length T ≡ shape.clients + marks_due shape g
  brings_counted = omega (arith, count_all shape.clients T ranged one_counted, brings.marked)

  own_under : OwnUnder write shape.clients T
  own_under c low =
      let one : AllOwn write (entry_on write c (one_under c low).0 ∷ []) =
      (ap write (sym (own_write c)), tt)
      in
      subst (AllOwn write) (sym (one_under c low).1) one

  -- they are those of their items
  pub brings_entries : placed_from write (length E + 1) (mark_count E + 1) (items_in T) ≡ T
  brings_entries =
      read_off shape write (length E + 1) (mark_count E + 1) T brings.order
      (all_own write shape.clients T ranged own_under)

  -- and these are the order of the turn that came about
  pub brings_order : (turn_of shape g (length E) ds).order ≡ items_in T
  brings_order =
      order_built shape write own_write (length E) (mark_count E + 1) T brings.order ranged ds
      (shape.clients + marks_due shape g) (sym brings_counted) brings.counted brings.places

  -- each write stands among them
  places_within : (off : ℕ) (es : List PinnedWrite) → AtPlaces write T off es → (k : ℕ) (d : PinnedWrite) →
      k < length es → StandsIn (length E) (length T) (slice_index_or es k d)
  places_within off [] at k d low = absurd (omega (arith, low))
  places_within off (e ∷ es) at zero d low =
      let found = place_within shape write own_write (length E) (mark_count E + 1) T brings.order
      ranged off e at.0
      in
      (omega (arith, found.2), omega (arith, found.1, found.2))
  places_within off (e ∷ es) at (suc k) d low =
      places_within (off + 1) es at.1 k d (omega (arith, low))

  pub brings_within : All (StandsIn (length E) (shape.clients + marks_due shape g)) ds
  brings_within k d low =
      let found = places_within 0 ds brings.places k d low in
      (found.0, omega (arith, found.1, brings_counted))
