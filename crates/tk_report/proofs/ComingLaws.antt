-- Which item may come next in a run, and the entry that it puts there.
use Rattle.std.proofs.Common.{◌≡◌, refl, ap, ap₂, sym, ◌∙◌, subst, arith, ℕ, zero, suc, ◌+◌, ◌*◌, ◌<◌, ◌≤◌}
use Rattle.std.proofs.Common.{List, [], ◌∷◌, ◌++◌, length, take, cond}
use Rattle.std.proofs.Common.{count_by, get_or, length-append, zero-mul, suc-mul, add-one, append_assoc}
use Rattle.std.proofs.lemmas.List.{take_more, take_all}
use Rattle.std.proofs.lemmas.List.Sums.{sum_by-cons, sum_by-append, count_by-le-length}
use Rattle.std.proofs.Math.Nat.{mul-le-mul_right, mul_comm, div-lt_iff_lt-mul}
use Rattle.tk_shape.specs.declared.shape.Shape.{Shape}
use Rattle.tk_shape.specs.Lengths.{turn_count}
use Rattle.tk_schedule.specs.declared.item.Item.{Item}
use Rattle.tk_schedule.specs.declared.item.Item.TheVariants.{Client, Publish}
use Rattle.tk_schedule.specs.declared.history.History.{History}
use Rattle.tk_schedule.specs.Schedule.{IsLegal, is_mark, marks_due, phase_of, phases_over, order_at}
use Rattle.tk_frames.specs.declared.write_frame.WriteFrame.{WriteFrame}
use Rattle.tk_frames.specs.declared.entry.Placed.{Placed}
use Rattle.tk_frames.specs.declared.entry.Entry.TheVariants.{Mark}
use Rattle.tk_frames.specs.Order.{records}
use Rattle.tk_frames.specs.InOrder.{IsOrder, mark_count, IsNext}
use Rattle.tk_frames.proofs.Offers.{records-append, marks-append, length-writes_and_marks, next-write, next-mark}
use Rattle.tk_report.specs.Entries.{placed_from, placed_after, entries_before, entries_at, write_at}
use Rattle.tk_report.proofs.EpochLaws.{marks-before}
use Rattle.tk_report.proofs.StorableLaws.{one-mark}
use Rattle.tk_report.proofs.TurnEntries.{length-placed_from, marks-placed_from, placed_from-append}
use Rattle.tk_script.specs.declared.script.Script.{Script}
use Rattle.tk_words.specs.Words.{BookWords}
use Rattle.tk_frames.specs.declared.entry.Entry.{Entry}
use Rattle.tk_frames.specs.Ranges.{IsEntry}
use Rattle.tk_report.specs.Turns.{placed_before, placed_in, placed_so_far, entry_due, next_placed}

-- ---- items

-- A write may come where fewer stand than a run has, and the mark that is due where no more do.
abbrev pub MayCome : Shape → ℕ → List Placed → Item → Type 0
MayCome shape g E (Client c) = length (records E) < shape.clients * turn_count shape
MayCome shape g E Publish =
    (length (records E) ≤ shape.clients * turn_count shape) × (mark_count E + 1 ≡ phase_of shape g)

-- a list is its front, an item and the rest
record IsParted (items front rest : List Item) (x : Item) : Type 0 where
  long : length items ≡ length front + suc (length rest)
  marks : count_by is_mark items
      ≡ count_by is_mark front + (cond (is_mark x) 1 0 + count_by is_mark rest)

parted : (front rest : List Item) (x : Item) → IsParted (front ++ x ∷ rest) front rest x
parted front rest x =
    record {
      long = length-append front (x ∷ rest);
      marks =
          sum_by-append (λ y. cond (is_mark y) 1 0) front (x ∷ rest)
          ∙ ap (λ n. count_by is_mark front + n)
          (sum_by-cons (λ y. cond (is_mark y) 1 0) x rest);
    }

item-parted : (items : List Item) (i : ℕ) (d : Item) → i < length items →
    (rest : List Item) × IsParted items (take i items) rest (get_or items i d)
item-parted [] i d low = absurd (omega (arith, low))
item-parted (x ∷ items) zero d low = (items, parted [] items x)
item-parted (x ∷ items) (suc i) d low =
    let later = item-parted items i d (omega (arith, low)) in
    let long = (later.1).long in
    let marks = (later.1).marks in
    let whole = sum_by-cons (λ y. cond (is_mark y) 1 0) x items in
    let front = sum_by-cons (λ y. cond (is_mark y) 1 0) x (take i items) in
    (later.0, record { long = omega (arith, long); marks = omega (arith, marks, whole, front) })

-- the writes that items put
length-written : (write : ℕ → WriteFrame) (E : List Placed) (items : List Item) →
    length items ≡ length (records (placed_after write E items)) + count_by is_mark items
length-written write E items =
    let placed = placed_after write E items in
    let all = length-writes_and_marks placed in
    let marks = marks-placed_from write (length E + 1) (mark_count E + 1) items in
    let long = length-placed_from write (length E + 1) (mark_count E + 1) items in
    omega (arith, all, marks, long)

-- ---- turns

-- what a legal turn has
record IsFull (shape : Shape) (g : ℕ) (items : List Item) : Type 0 where
  long : length items ≡ shape.clients + marks_due shape g
  marks : count_by is_mark items ≡ marks_due shape g

turn-full : (shape : Shape) (H : History) (g : ℕ) → IsLegal shape H → g < turn_count shape →
    IsFull shape g (order_at H g)
turn-full shape H g legal low =
    let turn = legal.each_turn g low in
    record { long = turn.counted; marks = turn.marks }

length-records : (E F : List Placed) →
    length (records (E ++ F)) ≡ length (records E) + length (records F)
length-records E F =
    ap length (records-append E F) ∙ length-append (records E) (records F)

-- each client writes once in each turn
pub writes-before : (shape : Shape) (write : ℕ → ℕ → WriteFrame) (H : History) →
    IsLegal shape H → (g : ℕ) → g ≤ turn_count shape →
    length (records (entries_before write H g)) ≡ g * shape.clients
unfolding entries_before
writes-before shape write H legal zero within = sym (zero-mul shape.clients)
writes-before shape write H legal (suc g) within =
    let E = entries_before write H g in
    let items = order_at H g in
    let before = writes-before shape write H legal g (omega (arith, within)) in
    let full = turn-full shape H g legal (omega (arith, within)) in
    let long = full.long in
    let marks = full.marks in
    let wrote = length-written (write g) E items in
    let both = length-records E (placed_after (write g) E items) in
    let next = suc-mul g shape.clients in
    omega (arith, before, long, marks, wrote, both, next)

-- ---- the next item

below : {m n : ℕ} → m < n → suc m ≤ n
below low = omega (arith, low)

-- what stands before an item of a turn
record IsBefore (shape : Shape) (g : ℕ) (all : List Placed) (x : Item) : Type 0 where
  writes : length (records all) + 1 ≤ suc g * shape.clients + cond (is_mark x) 1 0
  marks : cond {A = ℕ} (is_mark x) 1 0 ≡ 1 → mark_count all ≡ phases_over shape g

item-before : (shape : Shape) (write : ℕ → ℕ → WriteFrame) (H : History) (g : ℕ)
    (front rest : List Item) (x : Item) → IsLegal shape H → g < turn_count shape →
    IsParted (order_at H g) front rest x →
    let E = entries_before write H g in
    IsBefore shape g (E ++ placed_after (write g) E front) x
item-before shape write H g front rest x legal low is =
    let E = entries_before write H g in
    let placed = placed_after (write g) E front in
    let full = turn-full shape H g legal low in
    let long = full.long in
    let marks = full.marks in
    let parts = is.long in
    let marked = is.marks in
    let behind = count_by-le-length is_mark rest in
    let due = one-mark shape g in
    let wrote = length-written (write g) E front in
    let both = length-records E placed in
    let before = writes-before shape write H legal g (omega (arith, low)) in
    let next = suc-mul g shape.clients in
    let stood = marks-before shape write H legal g (omega (arith, low)) in
    let more = marks-append E placed in
    let put = marks-placed_from (write g) (length E + 1) (mark_count E + 1) front in
    record {
      writes =
          omega (arith, long, marks, parts, marked, behind, wrote, both, before, next);
      marks = λ publish.
          omega (arith, marks, marked, publish, due, more, put, stood);
    }

come-next : (shape : Shape) (g : ℕ) (all : List Placed) (x : Item) → g < turn_count shape →
    IsBefore shape g all x → MayCome shape g all x
come-next shape g all (Client c) low is =
    let writes = is.writes in
    let most = mul-le-mul_right shape.clients (below low) in
    let same = mul_comm shape.clients (turn_count shape) in
    omega (arith, writes, most, same)
come-next shape g all Publish low is =
    let writes = is.writes in
    let marks = is.marks refl in
    let most = mul-le-mul_right shape.clients (below low) in
    let same = mul_comm shape.clients (turn_count shape) in
    (omega (arith, writes, most, same), ap (λ n. n + 1) marks)

-- each item of a legal turn may come after those before it
pub item-may_come : (shape : Shape) (write : ℕ → ℕ → WriteFrame) (H : History) (g i : ℕ)
    (items : List Item) (d : Item) (all : List Placed) → IsLegal shape H → g < turn_count shape →
    items ≡ order_at H g → i < length items →
    all ≡ entries_before write H g
    ++ placed_after (write g) (entries_before write H g) (take i items) →
    MayCome shape g all (get_or items i d)
item-may_come shape write H g i items d all legal low turn within all_is =
    let x = get_or items i d in
    let parts = item-parted items i d within in
    let is = subst (λ xs. IsParted xs (take i items) parts.0 x) turn parts.1 in
    subst (λ ps. MayCome shape g ps x) (sym all_is)
    (come-next shape g _ x low
    (item-before shape write H g (take i items) parts.0 x legal low is))

-- a turn's phase is one of the shape's
pub phase-within : (shape : Shape) (g : ℕ) → g < turn_count shape →
    phases_over shape g < shape.phases
phase-within shape g low = (div-lt_iff_lt-mul shape.in_range.ticks_low).1 low

-- ---- the entry of the next item

-- an item that may come puts an entry in range that stands next
put-next : (shape : Shape) (write : ℕ → WriteFrame) (g : ℕ) (all : List Placed) (x : Item) →
    g < turn_count shape → IsOrder shape all → MayCome shape g all x →
    IsEntry shape (entry_due write (phase_of shape g) x) →
    IsNext shape all (next_placed all (entry_due write (phase_of shape g) x))
put-next shape write g all (Client c) low order come in_range =
    next-write shape all (write c) order in_range come
put-next shape write g all Publish low order come in_range =
    let due = come.1 in
    let within = phase-within shape g low in
    subst (λ (e : ℕ). IsNext shape all (next_placed all (Mark e))) due
    (next-mark shape all order come.0 (omega (arith, due, within)))

-- which is the one that the order has
put-same : (shape : Shape) (write : ℕ → WriteFrame) (g : ℕ) (all : List Placed) (x : Item) →
    MayCome shape g all x →
    entry_due write (mark_count all + 1) x ≡ entry_due write (phase_of shape g) x
put-same shape write g all (Client c) come = refl
put-same shape write g all Publish come = ap (λ (e : ℕ). Mark e) come.1

take-none : (items : List Item) → take 0 items ≡ []
take-none [] = refl
take-none (x ∷ items) = refl

-- the entries of the items so far, with one more
module _ (S : Script) (w : BookWords) (H : History) (g : ℕ) where
  in-more : (i : ℕ) (d : Item) → i < length (order_at H g) →
      placed_in S w H g (i + 1)
      ≡ placed_in S w H g i
      ++ next_placed (placed_so_far S w H g i)
      (entry_due (write_at S w g) (mark_count (placed_so_far S w H g i) + 1)
      (get_or (order_at H g) i d))
      ∷ []
  unfolding placed_in
  in-more i d within =
      let write = write_at S w g in
      let E = placed_before S w H g in
      let items = take i (order_at H g) in
      let x = get_or (order_at H g) i d in
      let some = placed_after write E items in
      let at : length E + 1 + length items ≡ length (E ++ some) + 1 =
      omega (
        arith,
        length-append E some,
        length-placed_from write (length E + 1) (mark_count E + 1) items,
      )
      in
      let counted : mark_count E + 1 + count_by is_mark items ≡ mark_count (E ++ some) + 1 =
      omega (
        arith,
        marks-append E some,
        marks-placed_from write (length E + 1) (mark_count E + 1) items,
      )
      in
      ap (placed_after write E) (take_more (order_at H g) i d within)
      ∙ placed_from-append write (length E + 1) (mark_count E + 1) items x
      ∙ ap₂ (λ (n k : ℕ). some ++ record { position = n; entry = entry_due write k x } ∷ [])
      at counted

  -- before any item there are none
  pub in-none : placed_in S w H g 0 ≡ []
  unfolding placed_in placed_from
  in-none =
      ap (placed_after (write_at S w g) (placed_before S w H g)) (take-none (order_at H g))

  -- past the last item there are no more
  pub in-past : (i : ℕ) → length (order_at H g) ≤ i →
      placed_in S w H g i ≡ placed_in S w H g (length (order_at H g))
  unfolding placed_in
  in-past i past =
      ap (placed_after (write_at S w g) (placed_before S w H g))
      (take_all i (order_at H g) past
      ∙ sym (take_all (length (order_at H g)) (order_at H g) (omega arith)))

  pub placed-all : placed_in S w H g (length (order_at H g)) ≡ entries_at (write_at S w) H g
  unfolding placed_in
  placed-all =
      ap (placed_after (write_at S w g) (placed_before S w H g))
      (take_all (length (order_at H g)) (order_at H g) (omega arith))

  -- when all items are done
  pub so_far-all : placed_so_far S w H g (length (order_at H g)) ≡ placed_before S w H (g + 1)
  unfolding placed_in entries_before
  so_far-all =
      let E = placed_before S w H g in
      ap (λ (items : List Item). E ++ placed_after (write_at S w g) E items)
      (take_all (length (order_at H g)) (order_at H g) (omega arith))
      ∙ ap (entries_before (write_at S w) H) (sym (add-one g))

  -- after those before a turn its own make those before the next
  pub turn-done : placed_before S w H g ++ entries_at (write_at S w) H g
      ≡ placed_before S w H (g + 1)
  turn-done = ap (λ (ps : List Placed). placed_before S w H g ++ ps) (sym placed-all) ∙ so_far-all

-- each item may come after those so far
so_far-may_come : (S : Script) (w : BookWords) (H : History) (g i : ℕ) (d : Item) →
    IsLegal S.shape H → g < turn_count S.shape → i < length (order_at H g) →
    MayCome S.shape g (placed_so_far S w H g i) (get_or (order_at H g) i d)
unfolding placed_in
so_far-may_come S w H g i d legal low within =
    item-may_come S.shape (write_at S w) H g i (order_at H g) d (placed_so_far S w H g i) legal low
    refl within refl

-- the entry of an item in range: it stands next, and the order goes on with it
pub record IsDue (S : Script) (w : BookWords) (H : History) (g i : ℕ) (e : Entry) : Type 0 where
  pub next : IsNext S.shape (placed_so_far S w H g i) (next_placed (placed_so_far S w H g i) e)
  pub here : placed_in S w H g (i + 1)
      ≡ placed_in S w H g i ++ next_placed (placed_so_far S w H g i) e ∷ []
  pub more : placed_so_far S w H g i ++ next_placed (placed_so_far S w H g i) e ∷ []
      ≡ placed_so_far S w H g (i + 1)

pub item-due : (S : Script) (w : BookWords) (H : History) (g i : ℕ) (d : Item) (e : Entry) →
    IsLegal S.shape H → g < turn_count S.shape → i < length (order_at H g) →
    IsOrder S.shape (placed_so_far S w H g i) → IsEntry S.shape e →
    e ≡ entry_due (write_at S w g) (phase_of S.shape g) (get_or (order_at H g) i d) →
    IsDue S w H g i e
item-due S w H g i d e legal low within order in_range is =
    let all = placed_so_far S w H g i in
    let x = get_or (order_at H g) i d in
    let write = write_at S w g in
    let come = so_far-may_come S w H g i d legal low within in
    let same : entry_due write (mark_count all + 1) x ≡ e =
    put-same S.shape write g all x come ∙ sym is
    in
    let more : placed_in S w H g (i + 1) ≡ placed_in S w H g i ++ next_placed all e ∷ [] =
    in-more S w H g i d within
    ∙ ap (λ (y : Entry). placed_in S w H g i ++ next_placed all y ∷ []) same
    in
    record {
      next =
          subst (λ (y : Entry). IsNext S.shape all (next_placed all y)) (sym is)
          (put-next S.shape write g all x low order come (subst (IsEntry S.shape) is in_range));
      here = more;
      more =
          append_assoc (placed_before S w H g) (placed_in S w H g i) (next_placed all e ∷ [])
          ∙ ap (λ (ps : List Placed). placed_before S w H g ++ ps) (sym more);
    }
