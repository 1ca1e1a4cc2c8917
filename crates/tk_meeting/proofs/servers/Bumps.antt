-- Functions of numbers of which one value is one more.
use Rattle.tk_meeting.proofs.Terms.{◌≡◌, ℕ, ◌≤◌, ◌<◌, length, map, ◌+◌, ◌==◌, refl, sym, arith, subst, inl, inr, eq-eqb}
use Rattle.tk_meeting.proofs.Terms.{ne_eqb, ◌≢◌, cases_eq, cond-true, cond-false, length-map-range_with_len}
use Rattle.tk_meeting.proofs.Terms.{get_or-map-range_with_len, range_with_len, turn_count, Shape, least-top}
use Rattle.tk_meeting.proofs.Terms.{least-above, least-below, least, changed}
use Rattle.tk_meeting.proofs.Course.{newest_by}
use Rattle.tk_meeting.proofs.servers.Numbers.{phases-ordered}

pub changed-same : {X : Type 0} (i : ℕ) (x : X) (f : ℕ → X) → changed i x f i ≡ x
changed-same i x f = cond-true (i == i) x (f i) (eq-eqb i i refl)

pub changed-other : {X : Type 0} (i k : ℕ) (x : X) (f : ℕ → X) → k ≢ i → changed i x f k ≡ f k
changed-other i k x f other = cond-false (k == i) x (f k) (ne_eqb k i other)

abbrev pub bumped : ℕ → (ℕ → ℕ) → ℕ → ℕ
bumped i f = changed i (f i + 1) f

pub bumped-above : (i : ℕ) (f : ℕ → ℕ) (k : ℕ) → f k ≤ bumped i f k
bumped-above i f k = elim (cases_eq k i) [
  | inl same ↦
      subst (λ n. f n ≤ bumped i f n) (sym same) (omega (arith, changed-same i (f i + 1) f))
  | inr other ↦ omega (arith, changed-other i k (f i + 1) f other)
]

pub bumped-within : (i : ℕ) (f : ℕ → ℕ) (k most : ℕ) → f i < most → f k ≤ most → bumped i f k ≤ most
bumped-within i f k most here there = elim (cases_eq k i) [
  | inl same ↦
      subst (λ n. bumped i f n ≤ most) (sym same) (omega (arith, changed-same i (f i + 1) f, here))
  | inr other ↦ omega (arith, changed-other i k (f i + 1) f other, there)
]

-- where each has written at least as much the newest epoch is at least as late
pub newest-grows : (shape : Shape) (writes more : ℕ → ℕ) →
    ((c : ℕ) → c < shape.clients → writes c ≤ more c) → newest_by shape writes ≤ newest_by shape more
newest-grows shape writes more each =
    let turns = turn_count shape in
    let n = shape.clients in
    let ms = map writes (range_with_len 0 n) in
    let ls = map more (range_with_len 0 n) in
    phases-ordered shape.ticks (least turns ms) (least turns ls) shape.in_range.ticks_low
    (least-above turns (least turns ms) ls (least-top turns ms) (λ i low.
    let within : i < n = omega (arith, low, length-map-range_with_len more 0 n) in
    let here : i < length ms = omega (arith, within, length-map-range_with_len writes 0 n) in
    omega (
      arith,
      least-below turns ms i 0 here,
      get_or-map-range_with_len writes 0 n i i 0 within (omega arith),
      get_or-map-range_with_len more 0 n i i 0 within (omega arith),
      each i within,
    )))
