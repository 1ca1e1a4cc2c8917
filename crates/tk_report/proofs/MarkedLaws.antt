-- What stands before a mark once it is made, and that the turns so far decide it.
use Rattle.std.proofs.Common.{◌≡◌, refl, ap, ap₂, sym, ◌∙◌, arith, ◌⊎◌, inl, inr, eq-eqb, ne_eqb}
use Rattle.std.proofs.Common.{ℕ, zero, suc, ◌+◌, ◌-◌, ◌<◌, ◌≤◌, true, false, cond, ◌||◌}
use Rattle.std.proofs.Common.{List, [], ◌∷◌, ◌++◌, length, count_by, append-nil, append_assoc}
use Rattle.std.specs.Prelude.{◌==◌}
use Rattle.std.proofs.lemmas.Bool.{cases_lt, or_right}
use Rattle.std.proofs.lemmas.List.Sums.{sum_by-append, sum_by-cons}
use Rattle.tk_shape.specs.declared.shape.Shape.{Shape}
use Rattle.tk_shape.specs.Lengths.{turn_count}
use Rattle.tk_schedule.specs.declared.item.Item.{Item}
use Rattle.tk_schedule.specs.declared.item.Item.TheVariants.{Client, Publish}
use Rattle.tk_schedule.specs.declared.history.History.{History}
use Rattle.tk_schedule.specs.Schedule.{IsLegal, phases_over, order_at, is_mark}
use Rattle.tk_frames.specs.declared.write_frame.WriteFrame.{WriteFrame}
use Rattle.tk_frames.specs.declared.entry.Placed.{Placed}
use Rattle.tk_frames.specs.InOrder.{mark_count}
use Rattle.tk_frames.specs.Order.{is_mark_entry, is_mark_of, has_mark, before}
use Rattle.tk_frames.proofs.Offers.{before-none, before-settled}
use Rattle.tk_report.specs.Entries.{placed_from, placed_after, entries_before}
use Rattle.tk_report.proofs.TurnEntries.{marks-placed_from}
use Rattle.tk_report.proofs.EpochLaws.{marks-before}
use Rattle.tk_report.specs.Agreement.{SameOrders, EntriesAgree, TurnEntriesAgree, StandingMarks, PhasesMarked}

-- ---- the entries of two histories

pub entries-agree : EntriesAgree
unfolding entries_before
entries-agree write H K zero same = refl
entries-agree write H K (suc g) same =
    ap₂ (λ (E : List Placed) (items : List Item). E ++ placed_after (write g) E items)
    (entries-agree write H K g (λ k low. same k (omega (arith, low))))
    (same g (omega arith))

pub turn_entries-agree : TurnEntriesAgree
turn_entries-agree write H K g same =
    ap₂ (λ (E : List Placed) (items : List Item). placed_after (write g) E items)
    (entries-agree write H K g (λ k low. same k (omega (arith, low))))
    (same g (omega arith))

-- ---- marks

any-front : (e : ℕ) (E F : List Placed) → has_mark e E ≡ true → has_mark e (E ++ F) ≡ true
any-front e [] F h = absurd (cc h)
any-front e (p ∷ E) F h =
    elim (is_mark_of e p) as (λ b. (b || has_mark e E) ≡ true → (b || has_mark e (E ++ F)) ≡ true)
    [ true ↦ λ _. refl | false ↦ λ rest. any-front e E F rest ] h

any-behind : (e : ℕ) (E F : List Placed) → has_mark e F ≡ true → has_mark e (E ++ F) ≡ true
any-behind e [] F h = h
any-behind e (p ∷ E) F h = or_right (is_mark_of e p) (has_mark e (E ++ F)) (any-behind e E F h)

-- the marks of a turn, of which the first has number n
items-marked : (write : ℕ → WriteFrame) (p n e : ℕ) (items : List Item) → n ≤ e →
    e < n + count_by is_mark items → has_mark e (placed_from write p n items) ≡ true
unfolding placed_from
items-marked write p n e [] low high = absurd (omega (arith, low, high))
items-marked write p n e (Client c ∷ items) low high =
    items-marked write (p + 1) n e items low
    (omega (arith, high, sum_by-cons (λ y. cond (is_mark y) 1 0) (Client c) items))
items-marked write p n e (Publish ∷ items) low high =
    let later = placed_from write (p + 1) (n + 1) items in
    elim (cases_lt n e) [
      | inl less ↦ or_right (n == e) (has_mark e later)
          (items-marked write (p + 1) (n + 1) e items (omega (arith, less))
          (omega (arith, high, sum_by-cons (λ y. cond (is_mark y) 1 0) Publish items)))
      | inr not_less ↦
          ap (λ b. b || has_mark e later) (eq-eqb n e (omega (arith, low, not_less)))
    ]

-- and no others
items-unmarked : (write : ℕ → WriteFrame) (p n e : ℕ) (items : List Item) →
    (e < n) ⊎ (n + count_by is_mark items ≤ e) → has_mark e (placed_from write p n items) ≡ false
unfolding placed_from
items-unmarked write p n e [] out = refl
items-unmarked write p n e (Client c ∷ items) out =
    let count = sum_by-cons (λ y. cond (is_mark y) 1 0) (Client c) items in
    items-unmarked write (p + 1) n e items (elim out [
      | inl low ↦ inl low
      | inr past ↦ inr (omega (arith, past, count))
    ])
items-unmarked write p n e (Publish ∷ items) out =
    let count = sum_by-cons (λ y. cond (is_mark y) 1 0) Publish items in
    let later = placed_from write (p + 1) (n + 1) items in
    let behind : (e < n + 1) ⊎ (n + 1 + count_by is_mark items ≤ e) = elim out [
      | inl low ↦ inl (omega (arith, low))
      | inr past ↦ inr (omega (arith, past, count))
    ]
    in
    let differ : n ≡ e → ⊥ = λ same. elim out [
      | inl low ↦ absurd (omega (arith, low, same))
      | inr past ↦ absurd (omega (arith, past, count, same))
    ]
    in
    ap (λ b. b || has_mark e later) (ne_eqb n e differ)
    ∙ items-unmarked write (p + 1) (n + 1) e items behind

any-none : (e : ℕ) (E F : List Placed) → has_mark e E ≡ false → has_mark e F ≡ false →
    has_mark e (E ++ F) ≡ false
any-none e [] F none also = also
any-none e (p ∷ E) F none also =
    elim (is_mark_of e p)
    as (λ b. (b || has_mark e E) ≡ false → (b || has_mark e (E ++ F)) ≡ false)
    [ true ↦ λ h. absurd (cc h) | false ↦ λ rest. any-none e E F rest also ] none

-- no mark of the turns before a turn has number 0, or one above how many they are
turns-unmarked : (write : ℕ → ℕ → WriteFrame) (H : History) (g e : ℕ) →
    (e ≡ 0) ⊎ (mark_count (entries_before write H g) < e) → has_mark e (entries_before write H g)
    ≡ false
unfolding entries_before
turns-unmarked write H zero e out = refl
turns-unmarked write H (suc g) e out =
    let E = entries_before write H g in
    let items = order_at H g in
    let turn = placed_after (write g) E items in
    let here = marks-placed_from (write g) (length E + 1) (mark_count E + 1) items in
    let all = sum_by-append (λ q. cond (is_mark_entry q) 1 0) E turn in
    let before : (e ≡ 0) ⊎ (mark_count E < e) = elim out [
      | inl first ↦ inl first
      | inr past ↦ inr (omega (arith, past, all))
    ]
    in
    let now : (e < mark_count E + 1) ⊎ (mark_count E + 1 + count_by is_mark items ≤ e) = elim out [
      | inl first ↦ inl (omega (arith, first))
      | inr past ↦ inr (omega (arith, past, all, here))
    ]
    in
    any-none e E turn (turns-unmarked write H g e before)
    (items-unmarked (write g) (length E + 1) (mark_count E + 1) e items now)

-- the marks of the turns before a turn are numbered from 1
turns-marked : (write : ℕ → ℕ → WriteFrame) (H : History) (g e : ℕ) → 0 < e →
    e ≤ mark_count (entries_before write H g) → has_mark e (entries_before write H g) ≡ true
unfolding entries_before
turns-marked write H zero e low high = absurd (omega (arith, low, high))
turns-marked write H (suc g) e low high =
    let E = entries_before write H g in
    let items = order_at H g in
    let turn = placed_after (write g) E items in
    elim (cases_lt (mark_count E) e) [
      | inl new ↦
          let here = marks-placed_from (write g) (length E + 1) (mark_count E + 1) items in
          let all = sum_by-append (λ q. cond (is_mark_entry q) 1 0) E turn in
          any-behind e E turn
          (items-marked (write g) (length E + 1) (mark_count E + 1) e items (omega (arith, new))
          (omega (arith, high, here, all)))
      | inr old ↦ any-front e E turn (turns-marked write H g e low old)
    ]

-- ---- what stands before a mark

-- the entries of the first turns are the front of those of more turns
entries-front : (write : ℕ → ℕ → WriteFrame) (H : History) (g k : ℕ) →
    (rest : List Placed) × (entries_before write H (k + g) ≡ entries_before write H g ++ rest)
unfolding entries_before
entries-front write H g zero =
    let none : zero + g ≡ g = omega arith in
    ([], ap (entries_before write H) none ∙ sym (append-nil (entries_before write H g)))
entries-front write H g (suc k) =
    let front = entries-front write H g k in
    let E = entries_before write H (k + g) in
    let turn = placed_after (write (k + g)) E (order_at H (k + g)) in
    let more : suc k + g ≡ suc (k + g) = omega arith in (
      front.0 ++ turn,
      ap (entries_before write H) more ∙ ap (λ (F : List Placed). F ++ turn) front.1
          ∙ append_assoc (entries_before write H g) front.0 turn,
    )

-- what stands before a mark that stands, whatever turns follow
pub before-standing : StandingMarks
before-standing write H g n e later stands =
    let front = entries-front write H g (n - g) in
    let whole : n - g + g ≡ n = omega (arith, later) in
    ap (λ m. before (entries_before write H m) e) (sym whole)
    ∙ ap (λ (F : List Placed). before F e) front.1
    ∙ before-settled (entries_before write H g) front.0 e stands

-- what stands before a mark of the first turns, whatever turns follow
pub before-made : (write : ℕ → ℕ → WriteFrame) (H : History) (g n e : ℕ) → g ≤ n →
    e ≤ mark_count (entries_before write H g) →
    before (entries_before write H n) e ≡ before (entries_before write H g) e
before-made write H g n zero later made =
    before-none (entries_before write H n) ∙ sym (before-none (entries_before write H g))
before-made write H g n (suc e) later made =
    before-standing write H g n (suc e) later (turns-marked write H g (suc e) (omega arith) made)

-- the same, told of the phases that are over
pub before-over : (shape : Shape) (write : ℕ → ℕ → WriteFrame) (H : History) (g n e : ℕ) →
    IsLegal shape H → g ≤ n → n ≤ turn_count shape → e ≤ phases_over shape g →
    before (entries_before write H n) e ≡ before (entries_before write H g) e
before-over shape write H g n e legal later within made =
    let marks : mark_count (entries_before write H g) ≡ phases_over shape g =
    marks-before shape write H legal g (omega (arith, later, within))
    in
    before-made write H g n e later (omega (arith, marks, made))

-- of two histories of which one is legal
pub before-agree : (shape : Shape) (write : ℕ → ℕ → WriteFrame) (H K : History) (g n e : ℕ) →
    IsLegal shape H → g ≤ n → n ≤ turn_count shape → e ≤ phases_over shape g → SameOrders H K g →
    before (entries_before write H n) e ≡ before (entries_before write K n) e
before-agree shape write H K g n e legal later within made same =
    let marks : mark_count (entries_before write H g) ≡ phases_over shape g =
    marks-before shape write H legal g (omega (arith, later, within))
    in
    let alike = entries-agree write H K g same in
    let others : mark_count (entries_before write H g) ≡ mark_count (entries_before write K g) =
    ap mark_count alike
    in
    before-made write H g n e later (omega (arith, marks, made))
    ∙ ap (λ (E : List Placed). before E e) alike
    ∙ sym (before-made write K g n e later (omega (arith, marks, others, made)))

pub phases-marked : PhasesMarked
phases-marked shape write H n e legal within =
    let marks : mark_count (entries_before write H n) ≡ phases_over shape n =
    marks-before shape write H legal n within
    in
    record {
      stand = λ low made. turns-marked write H n e low (omega (arith, marks, made));
      none_ahead = λ ahead. turns-unmarked write H n e (inr (omega (arith, marks, ahead)));
      none_first = turns-unmarked write H n 0 (inl refl);
    }
