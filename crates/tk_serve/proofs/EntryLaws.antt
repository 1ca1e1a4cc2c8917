-- The entries of turns, write after write.
use Rattle.std.proofs.Common.{◌≡◌, ℕ, zero, suc, ◌+◌, ◌*◌, ◌<◌, ◌≤◌, refl, ap, ap₂, sym, ◌∙◌, arith, true, false, cond}
use Rattle.std.proofs.Common.{List, [], ◌∷◌, ◌++◌, length, map, replicate, count_by, append-nil, length-append}
use Rattle.std.proofs.Common.{zero-add, add-one}
use Rattle.std.proofs.Math.Nat.{mul-suc, mul-zero, mul-le-mul_left}
use Rattle.std.specs.List.{range_with_len}
use Rattle.std.proofs.lemmas.List.FromFn.{map-range_with_len_more, get_or-map-range_with_len, length-map-range_with_len}
use Rattle.tk_shape.specs.declared.shape.Shape.{Shape}
use Rattle.tk_shape.specs.Lengths.{turn_count}
use Rattle.tk_schedule.specs.declared.item.Item.{Item}
use Rattle.tk_schedule.specs.declared.item.Item.TheVariants.{Client, Publish}
use Rattle.tk_schedule.specs.declared.history.History.{History}
use Rattle.tk_schedule.specs.Schedule.{is_closing, marks_due, phases_over, order_at, serial_turn}
use Rattle.tk_schedule.specs.Schedule.{serial_history, blank_turn}
use Rattle.tk_schedule.proofs.Offers.{serial-IsLegal, no_marks}
use Rattle.tk_frames.specs.declared.write_frame.WriteFrame.{WriteFrame}
use Rattle.tk_frames.specs.declared.entry.Placed.{Placed}
use Rattle.tk_frames.specs.declared.entry.Entry.TheVariants.{Write, Mark}
use Rattle.tk_frames.specs.Order.{records, is_mark_entry}
use Rattle.tk_frames.specs.Ranges.{IsWrite}
use Rattle.tk_frames.specs.InOrder.{mark_count, IsNext, IsOrder}
use Rattle.tk_frames.proofs.Offers.{records-append, marks-append, length-writes_and_marks, next-write, next-mark}
use Rattle.tk_report.specs.Entries.{placed_from, placed_after, entries_before}
use Rattle.tk_report.specs.Turns.{next_placed}
use Rattle.tk_report.proofs.Offers.{length-placed_from, marks-placed_from, placed_after-append, marks-before}
use Rattle.tk_serve.specs.Desks.{with_writes}
use Rattle.tk_serve.proofs.Phases.{phase-before}

-- ---- the same writes give the same entries

placed_from-agree : (write other : ℕ → WriteFrame) (position e : ℕ) (items : List Item) →
    ((c : ℕ) → write c ≡ other c) → placed_from write position e items ≡ placed_from other position e items
unfolding placed_from
placed_from-agree write other position e [] same = refl
placed_from-agree write other position e (Client c ∷ items) same =
    ap₂ (λ (w : WriteFrame) (ps : List Placed). record { position = position; entry = Write w } ∷ ps) (same c)
    (placed_from-agree write other (position + 1) e items same)
placed_from-agree write other position e (Publish ∷ items) same =
    ap (λ (ps : List Placed). record { position = position; entry = Mark e } ∷ ps)
    (placed_from-agree write other (position + 1) (e + 1) items same)

pub entries-of_same : (write other : ℕ → ℕ → WriteFrame) (H : History) (g : ℕ) →
    ((k c : ℕ) → k < g → write k c ≡ other k c) → entries_before write H g ≡ entries_before other H g
unfolding entries_before
entries-of_same write other H zero same = refl
entries-of_same write other H (suc g) same =
    let items = order_at H g in
    let E = entries_before other H g in
    ap (λ (F : List Placed). F ++ placed_after (write g) F items)
    (entries-of_same write other H g (λ k c low. same k c (omega (arith, low))))
    ∙ ap (λ (F : List Placed). E ++ F)
    (placed_from-agree (write g) (other g) (length E + 1) (count_by is_mark_entry E + 1) items
    (λ c. same g c (omega arith)))

-- ---- a turn of the serial history

order-serial : (shape : Shape) (g : ℕ) → g < turn_count shape →
    order_at (serial_history shape) g
    ≡ map Client (range_with_len 0 shape.clients) ++ replicate (marks_due shape g) Publish
unfolding serial_history
order-serial shape g low =
    ap (λ t. t.order)
    (get_or-map-range_with_len (serial_turn shape) 0 (turn_count shape) g g blank_turn low (zero-add g))

-- ---- the writes of a turn, one by one

pub writes-none : (E : List Placed) (write : ℕ → WriteFrame) → with_writes E write 0 ≡ E
unfolding placed_from
writes-none E write = append-nil E

pub writes-more : (E : List Placed) (write : ℕ → WriteFrame) (i : ℕ) →
    with_writes E write (i + 1)
    ≡ with_writes E write i ++ next_placed (with_writes E write i) (Write (write i)) ∷ []
writes-more E write i =
    ap (λ items. E ++ placed_after write E items) (map-range_with_len_more Client 0 i i (zero-add i))
    ∙ placed_after-append write E (map Client (range_with_len 0 i)) (Client i)

writes-length : (E : List Placed) (write : ℕ → WriteFrame) (i : ℕ) →
    length (with_writes E write i) ≡ length E + i
writes-length E write i =
    let items = map Client (range_with_len 0 i) in
    length-append E (placed_after write E items)
    ∙ ap (λ n. length E + n)
    (length-placed_from write (length E + 1) (count_by is_mark_entry E + 1) items
    ∙ length-map-range_with_len Client 0 i)

pub writes-marks : (E : List Placed) (write : ℕ → WriteFrame) (i : ℕ) →
    mark_count (with_writes E write i) ≡ mark_count E
writes-marks E write i =
    let items = map Client (range_with_len 0 i) in
    let none : mark_count (placed_after write E items) ≡ 0 =
    marks-placed_from write (length E + 1) (count_by is_mark_entry E + 1) items ∙ no_marks 0 i
    in
    omega (arith, marks-append E (placed_after write E items), none)

pub writes-records : (E : List Placed) (write : ℕ → WriteFrame) (i : ℕ) →
    length (records (with_writes E write i)) ≡ length (records E) + i
writes-records E write i =
    omega (
      arith,
      length-writes_and_marks E,
      length-writes_and_marks (with_writes E write i),
      writes-length E write i,
      writes-marks E write i,
    )

-- the write of the next client may come next
pub writes-next : (shape : Shape) (E : List Placed) (write : ℕ → WriteFrame) (i : ℕ) →
    IsOrder shape (with_writes E write i) → IsWrite shape (write i) →
    length (records E) + i < shape.clients * turn_count shape →
    IsNext shape (with_writes E write i) (next_placed (with_writes E write i) (Write (write i)))
writes-next shape E write i order in_range room =
    next-write shape (with_writes E write i) (write i) order in_range
    (omega (arith, writes-records E write i, room))

-- ---- whole turns

next-turn : (write : ℕ → ℕ → WriteFrame) (H : History) (g : ℕ) →
    entries_before write H (g + 1)
    ≡ entries_before write H g ++ placed_after (write g) (entries_before write H g) (order_at H g)
unfolding entries_before
next-turn write H g = ap (entries_before write H) (add-one g)

-- a turn that doesn't close its phase
pub turn-open : (shape : Shape) (write : ℕ → ℕ → WriteFrame) (g : ℕ) → g < turn_count shape →
    is_closing shape g ≡ false →
    entries_before write (serial_history shape) (g + 1)
    ≡ with_writes (entries_before write (serial_history shape) g) (write g) shape.clients
turn-open shape write g low open_still =
    let E = entries_before write (serial_history shape) g in
    let clients = map Client (range_with_len 0 shape.clients) in
    let items : order_at (serial_history shape) g ≡ clients =
    order-serial shape g low
    ∙ ap (λ b. clients ++ replicate (cond b 1 0) Publish) open_still ∙ append-nil clients
    in
    next-turn write (serial_history shape) g ∙ ap (λ xs. E ++ placed_after (write g) E xs) items

-- a turn that closes its phase ends with the mark
pub turn-closed : (shape : Shape) (write : ℕ → ℕ → WriteFrame) (g : ℕ) → g < turn_count shape →
    is_closing shape g ≡ true →
    (let all = with_writes (entries_before write (serial_history shape) g) (write g) shape.clients in
    entries_before write (serial_history shape) (g + 1)
    ≡ all ++ next_placed all (Mark (mark_count all + 1)) ∷ [])
turn-closed shape write g low closes =
    let E = entries_before write (serial_history shape) g in
    let clients = map Client (range_with_len 0 shape.clients) in
    let items : order_at (serial_history shape) g ≡ clients ++ Publish ∷ [] =
    order-serial shape g low ∙ ap (λ b. clients ++ replicate (cond b 1 0) Publish) closes
    in
    next-turn write (serial_history shape) g ∙ ap (λ xs. E ++ placed_after (write g) E xs) items
    ∙ placed_after-append (write g) E clients Publish

-- how many writes and marks the first turns have
pub turns-records : (shape : Shape) (write : ℕ → ℕ → WriteFrame) (g : ℕ) → g ≤ turn_count shape →
    length (records (entries_before write (serial_history shape) g)) ≡ shape.clients * g
unfolding entries_before
turns-records shape write zero within = sym (mul-zero shape.clients)
turns-records shape write (suc g) within =
    let H = serial_history shape in
    let E = entries_before write H g in
    let items = order_at H g in
    let turn = placed_after (write g) E items in
    let is = (serial-IsLegal shape).each_turn g (omega (arith, within)) in
    let before = turns-records shape write g (omega (arith, within)) in
    let long : length turn ≡ shape.clients + marks_due shape g =
    length-placed_from (write g) (length E + 1) (count_by is_mark_entry E + 1) items ∙ is.counted
    in
    let marked : mark_count turn ≡ marks_due shape g =
    marks-placed_from (write g) (length E + 1) (count_by is_mark_entry E + 1) items ∙ is.marks
    in
    let more : length (records (E ++ turn)) ≡ length (records E) + length (records turn) =
    ap length (records-append E turn) ∙ length-append (records E) (records turn)
    in
    omega (arith, before, more, long, marked, length-writes_and_marks turn, mul-suc shape.clients g)

pub turns-marks : (shape : Shape) (write : ℕ → ℕ → WriteFrame) (g : ℕ) → g ≤ turn_count shape →
    mark_count (entries_before write (serial_history shape) g) ≡ phases_over shape g
turns-marks shape write g within =
    marks-before shape write (serial_history shape) (serial-IsLegal shape) g within

-- there is room for the writes of a turn
pub turn-room : (shape : Shape) (g : ℕ) → g < turn_count shape →
    shape.clients * g + shape.clients ≤ shape.clients * turn_count shape
turn-room shape g low =
    omega (
      arith,
      mul-suc shape.clients g,
      mul-le-mul_left {m = suc g} {n = turn_count shape} shape.clients (omega (arith, low)),
    )

-- the mark of a turn may come next after its writes
pub mark-next : (shape : Shape) (write : ℕ → ℕ → WriteFrame) (g : ℕ) → g < turn_count shape →
    (let all = with_writes (entries_before write (serial_history shape) g) (write g) shape.clients in
    IsOrder shape all → IsNext shape all (next_placed all (Mark (mark_count all + 1))))
mark-next shape write g low order =
    let E = entries_before write (serial_history shape) g in
    let all = with_writes E (write g) shape.clients in
    let marks : mark_count all ≡ phases_over shape g =
    writes-marks E (write g) shape.clients ∙ turns-marks shape write g (omega (arith, low))
    in
    let few : mark_count all < shape.phases =
    omega (arith, marks, phase-before shape.ticks shape.phases g shape.in_range.ticks_low low)
    in
    let counted = writes-records E (write g) shape.clients in
    let before = turns-records shape write g (omega (arith, low)) in
    next-mark shape all order
    (omega (arith, counted, before, turn-room shape g low)) few
