-- An entry that may follow in an order may stand next: the order isn't full.
use Rattle.std.proofs.Common.{◌≡◌, ◌≢◌, ℕ, zero, suc, ◌+◌, ◌*◌, ◌<◌, ◌≤◌, ◌==◌, true, false, cond}
use Rattle.std.proofs.Common.{List, [], ◌∷◌, length, refl, ap, sym, ◌∙◌, subst, arith}
use Rattle.std.proofs.Math.Nat.{suc-mul, zero-mul}
use Rattle.std.proofs.lemmas.Bool.Decides.{nat_tests}
use native.Mathlib.Decide.{ℕ_discrete}
use mathlib.Core.Logic.{dite}
use Rattle.tk_shape.specs.declared.shape.Shape.{Shape}
use Rattle.tk_shape.specs.Lengths.{turn_count}
use Rattle.tk_frames.specs.declared.write_frame.WriteFrame.{WriteFrame}
use Rattle.tk_frames.specs.declared.entry.Placed.{Placed}
use Rattle.tk_frames.specs.declared.entry.Entry.{Entry}
use Rattle.tk_frames.specs.declared.entry.Entry.TheVariants.{Write, Mark}
use Rattle.tk_frames.specs.Order.{is_mark, records}
use Rattle.tk_frames.specs.Ranges.{IsEntry}
use Rattle.tk_frames.specs.InOrder.{mark_count, number_after, IsOrderFrom, IsNext}
use Rattle.tk_frames.proofs.Offers.{length-writes_and_marks, marks-cons, next-write, next-mark}
use Rattle.tk_order.specs.Legality.{number_of, seat_of, of, IsLegal, MayFollow}

-- how many entries stand under the first k clients' numbers
abbrev below : ℕ → List Placed → ℕ
below zero E = 0
below (suc k) E = below k E + length (of (k + 1) E)

-- ---- each client has at most its turns

below-most : (k turns : ℕ) (E : List Placed) →
    ((n : ℕ) → 0 < n → length (of n E) ≤ turns) → below k E ≤ k * turns
below-most zero turns E few = omega (arith, zero-mul turns)
below-most (suc k) turns E few =
    omega (arith, suc-mul k turns, below-most k turns E few, few (k + 1) (omega arith))

-- and with a turn left for one of them there are fewer
below-less : (k turns c : ℕ) (E : List Placed) →
    ((n : ℕ) → 0 < n → length (of n E) ≤ turns) → c < k → length (of (c + 1) E) < turns →
    below k E < k * turns
below-less zero turns c E few low left = absurd (omega (arith, low))
below-less (suc k) turns c E few low left = dite (ℕ_discrete c k)
    (λ is.
    let last : length (of (k + 1) E) < turns =
    subst (λ n. length (of (n + 1) E) < turns) is left in
    omega (arith, suc-mul k turns, below-most k turns E few, last))
    (λ isnt.
    let rest = below-less k turns c E few (omega (arith, low, isnt)) left in
    omega (arith, suc-mul k turns, rest, few (k + 1) (omega arith)))

-- ---- all writes stand under the clients' numbers

of-same : (n : ℕ) (p : Placed) (E : List Placed) → seat_of p ≡ n →
    length (of n (p ∷ E)) ≡ suc (length (of n E))
of-same n p E is = let yes : (seat_of p == n) ≡ true = grind (arith, nat_tests, is) in rw yes refl

of-other : (n : ℕ) (p : Placed) (E : List Placed) → seat_of p ≢ n →
    length (of n (p ∷ E)) ≡ length (of n E)
of-other n p E isnt =
    let no : (seat_of p == n) ≡ false = grind (arith, nat_tests, isnt) in rw no refl

below-mark : (k : ℕ) (p : Placed) (E : List Placed) → seat_of p ≡ 0 → below k (p ∷ E) ≡ below k E
below-mark zero p E none = refl
below-mark (suc k) p E none =
    let here = of-other (k + 1) p E (λ is. omega (arith, is, none)) in
    omega (arith, below-mark k p E none, here)

below-high : (k : ℕ) (p : Placed) (E : List Placed) → k < seat_of p → below k (p ∷ E) ≡ below k E
below-high zero p E high = refl
below-high (suc k) p E high =
    let here = of-other (k + 1) p E (λ is. omega (arith, is, high)) in
    omega (arith, below-high k p E (omega (arith, high)), here)

below-write : (k c : ℕ) (p : Placed) (E : List Placed) → seat_of p ≡ c + 1 → c < k →
    below k (p ∷ E) ≡ suc (below k E)
below-write zero c p E is low = absurd (omega (arith, low))
below-write (suc k) c p E is low = dite (ℕ_discrete c k)
    (λ last.
    let here = of-same (k + 1) p E (omega (arith, is, last)) in
    let rest = below-high k p E (omega (arith, is, last)) in
    omega (arith, rest, here))
    (λ isnt.
    let here = of-other (k + 1) p E (λ same. isnt (omega (arith, is, same))) in
    let rest = below-write k c p E is (omega (arith, low, isnt)) in
    omega (arith, rest, here))

below-none : (k : ℕ) → below k [] ≡ 0
below-none zero = refl
below-none (suc k) = omega (arith, below-none k)

marks-else : (p : Placed) (w : WriteFrame) (E : List Placed) → p.entry ≡ Write w →
    mark_count (p ∷ E) ≡ mark_count E
marks-else p w E is =
    omega (arith, marks-cons p E, ap {B = ℕ} (λ (x : Entry). cond (is_mark x) 1 0) is)

marks-one : (p : Placed) (e : ℕ) (E : List Placed) → p.entry ≡ Mark e →
    mark_count (p ∷ E) ≡ suc (mark_count E)
marks-one p e E is =
    omega (arith, marks-cons p E, ap {B = ℕ} (λ (x : Entry). cond (is_mark x) 1 0) is)

-- one more entry: a write of one of these clients, or a mark
counted : (shape : Shape) (p : Placed) (x : Entry) (E : List Placed) → p.entry ≡ x →
    IsEntry shape x → below shape.clients E + mark_count E ≡ length E →
    below shape.clients (p ∷ E) + mark_count (p ∷ E) ≡ suc (length E)
counted shape p (Write w) E is in_range rest =
    let here = below-write shape.clients w.client p E (ap number_of is) in_range.client in
    omega (arith, here, marks-else p w E is, rest)
counted shape p (Mark e) E is in_range rest =
    let here = below-mark shape.clients p E (ap number_of is) in
    omega (arith, here, marks-one p e E is, rest)

below-all : (shape : Shape) (place due : ℕ) (E : List Placed) → IsOrderFrom shape place due E →
    below shape.clients E + mark_count E ≡ length E
below-all shape place due [] order = omega (arith, below-none shape.clients)
below-all shape place due (p ∷ E) order =
    counted shape p p.entry E refl (order.0).in_range.entry
    (below-all shape (place + 1) (number_after due p.entry) E order.1)

-- how many writes there are
writes_below : (shape : Shape) (E : List Placed) → IsLegal shape E →
    length (records E) ≡ below shape.clients E
writes_below shape E legal =
    omega (arith, below-all shape 1 1 E legal.order, length-writes_and_marks E)

-- at most as many as all clients have turns
pub writes_most : (shape : Shape) (E : List Placed) → IsLegal shape E →
    length (records E) ≤ shape.clients * turn_count shape
writes_most shape E legal =
    let most = below-most shape.clients (turn_count shape) E legal.few in
    omega (arith, most, writes_below shape E legal)

-- ---- all marks stand under number 0

marked : (p : Placed) (x : Entry) (E : List Placed) → p.entry ≡ x →
    length (of 0 E) ≡ mark_count E → length (of 0 (p ∷ E)) ≡ mark_count (p ∷ E)
marked p (Write w) E is rest =
    let seat : seat_of p ≡ w.client + 1 = ap number_of is in
    let here = of-other 0 p E (λ zero_is. omega (arith, zero_is, seat)) in
    omega (arith, here, marks-else p w E is, rest)
marked p (Mark e) E is rest =
    omega (arith, of-same 0 p E (ap number_of is), marks-one p e E is, rest)

pub marks_under_zero : (E : List Placed) → length (of 0 E) ≡ mark_count E
marks_under_zero [] = refl
marks_under_zero (p ∷ E) = marked p p.entry E refl (marks_under_zero E)

-- ---- what is due may stand next

next_entry : (shape : Shape) (E own : List Placed) (x : Entry) → IsLegal shape E →
    of (number_of x) E ≡ own → MayFollow shape own x →
    IsNext shape E (record { position = length E + 1; entry = x })
next_entry shape E own (Write w) legal has may =
    let left : length (of (w.client + 1) E) < turn_count shape =
    subst (λ (ys : List Placed). length ys < turn_count shape) (sym has) may.due in
    let less = below-less shape.clients (turn_count shape) w.client E legal.few may.in_range.client left in
    next-write shape E w legal.order may.in_range (omega (arith, less, writes_below shape E legal))
next_entry shape E own (Mark e) legal has may =
    let count : length own ≡ mark_count E = sym (ap length has) ∙ marks_under_zero E in
    let number : e ≡ mark_count E + 1 = may.due ∙ ap (λ n. n + 1) count in
    subst (λ n. IsNext shape E (record { position = length E + 1; entry = Mark n })) (sym number)
    (next-mark shape E legal.order (writes_most shape E legal)
    (omega (arith, may.in_range.1, number)))

pub next_due : (shape : Shape) (E own : List Placed) (p : Placed) → IsLegal shape E →
    of (seat_of p) E ≡ own → MayFollow shape own p.entry → p.position ≡ length E + 1 →
    IsNext shape E p
next_due shape E own p legal has may at =
    subst (λ n. IsNext shape E (record { position = n; entry = p.entry })) (sym at)
    (next_entry shape E own p.entry legal has may)
