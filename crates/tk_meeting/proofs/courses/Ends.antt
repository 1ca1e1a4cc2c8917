-- When all is handed over each client has asked in every turn, and every read is settled.
use Rattle.tk_meeting.proofs.Terms.{◌≡◌, ℕ, ◌≤◌, ◌<◌, min, List, [], map, ◌+◌, ◌/◌, cond, ◌-◌, ◌*◌, Bool, true, false}
use Rattle.tk_meeting.proofs.Terms.{◌∙◌, refl, ap, sym, zero, suc, arith, subst, ◌⊎◌, inl, inr, lt-ltb, le-leb}
use Rattle.tk_meeting.proofs.Terms.{mul-div_left, cases_lt, and_from, both_ways, range_with_len, list_all, nat_lt, ◌&&◌}
use Rattle.tk_meeting.proofs.Terms.{nat_le, not, turn_count, Shape, phases_over, phase-past, least_of}
use Rattle.tk_meeting.proofs.Pace.{Pace, Paced, Kind, IsPace, IsIdle, asks_now, gone_ahead, gone_by_ticks, known_by}
use Rattle.tk_meeting.proofs.Pace.{all_replied, settled}
use Rattle.tk_meeting.proofs.Course.{newest_by, replies_of, came_of, stream_len}
use Rattle.tk_meeting.proofs.servers.Numbers.{phases-ordered}
use Rattle.tk_meeting.proofs.courses.Lengths.{order-epoch}
use Rattle.tk_meeting.proofs.members.Paces.{written_on, asked_by, acted-pace}
use Rattle.tk_meeting.proofs.courses.Balanced.{IsLinked, IsBalancedAt}

-- ---- tests of each number

all_from : (f : ℕ → Bool) (a n : ℕ) → ((j : ℕ) → a ≤ j → j < a + n → f j ≡ true) →
    list_all f (range_with_len a n) ≡ true
all_from f a zero each = refl
all_from f a (suc n) each =
    and_from (f a) (list_all f (range_with_len (a + 1) n)) (each a (omega arith) (omega arith))
    (all_from f (a + 1) n (λ j low high. each j (omega (arith, low)) (omega (arith, high))))

pub least-from : (k top : ℕ) (f : ℕ → ℕ) (a n : ℕ) → k ≤ top → ((j : ℕ) → a ≤ j → j < a + n → k ≤ f j) →
    k ≤ least_of top (map f (range_with_len a n))
least-from k top f a zero low each = low
least-from k top f a (suc n) low each =
    omega (
      arith,
      each a (omega arith) (omega arith),
      least-from k top f (a + 1) n low (λ j first last. each j (omega (arith, first)) (omega (arith, last))),
    )

-- ---- a client to which nothing is due asks nothing

asks-none : (shape : Shape) (p : Pace) → IsIdle shape p → asks_now shape (written_on shape p) ≡ false
asks-none shape p idle = by (asks_now shape (written_on shape p)) refl
  where
    by : (b : Bool) → asks_now shape (written_on shape p) ≡ b → asks_now shape (written_on shape p) ≡ false
    by true is =
        let more : p.asked ≡ p.asked + 1 =
        sym (ap (λ (t : Paced). t.pace.asked) idle)
        ∙ ap (λ (q : Pace). q.asked) (acted-pace shape p ∙ ap (λ b. (asked_by b (written_on shape p)).pace) is)
        in
        absurd (omega (arith, more))
    by false is = is

asks_if : (a b c : Bool) → a ≡ true → b ≡ false → c ≡ true → (a && not b && c) ≡ true
asks_if a b c x y z = λ i. x i && not (y i) && z i

-- ---- what came of one server

abbrev pub all_came : Shape → Pace → ℕ → Type 0
all_came shape p j = (replies_of p j ≡ p.asked) × (p.epochs j ≡ p.asked / shape.ticks)

replies_most : (p : Pace) (j : ℕ) (b r : Bool) → p.is_open ≡ b → p.replied j ≡ r →
    (p.is_open ≡ true → 0 < p.asked) → (p.is_open ≡ false → p.replied j ≡ false) →
    replies_of p j ≤ p.asked
replies_most p j true true open_is replied_is some none =
    let a : replies_of p j ≡ p.asked - 1 + 1 =
    λ i. cond (open_is i) (p.asked - 1) p.asked + cond (replied_is i) 1 0
    in
    omega (arith, a, some open_is)
replies_most p j true false open_is replied_is some none =
    let a : replies_of p j ≡ p.asked - 1 + 0 =
    λ i. cond (open_is i) (p.asked - 1) p.asked + cond (replied_is i) 1 0
    in
    omega (arith, a)
replies_most p j false r open_is replied_is some none =
    let a : replies_of p j ≡ p.asked + 0 =
    λ i. cond (open_is i) (p.asked - 1) p.asked + cond (none open_is i) 1 0
    in
    omega (arith, a)

-- where the epochs of all these reads are there
pub full-len : (shape : Shape) (n k : ℕ) → k / shape.ticks ≤ n → stream_len shape n k ≡ k + k / shape.ticks
full-len shape n k few =
    let t = shape.ticks in
    let m = min k ((n + 1) * t) in
    let all : m ≡ k = elim (cases_lt k ((n + 1) * t)) [
      | inl below ↦ omega (arith, below)
      | inr past ↦ absurd (omega (arith, few, phase-past t (n + 1) k shape.in_range.ticks_low past))
    ]
    in
    (λ i. all i + min (all i / t) n) ∙ few_of k (k / t) n few
  where
    few_of : (k x n : ℕ) → x ≤ n → k + min x n ≡ k + x
    few_of k x n low = omega (arith, low)

epochs_most : (shape : Shape) (r e : ℕ) → (e ≡ r / shape.ticks) ⊎ (r ≡ (e + 1) * shape.ticks) →
    e ≤ r / shape.ticks
epochs_most shape r e (inl is) = omega (arith, is)
epochs_most shape r e (inr is) = omega (arith, order-epoch shape.ticks r e shape.in_range.ticks_low is)

pub came-whole : (shape : Shape) (c : ℕ) (p : Pace) (j : ℕ) (writes : ℕ → ℕ) (reads : ℕ) → IsPace shape p →
    IsLinked shape c p j writes reads [] → p.asked / shape.ticks ≤ newest_by shape writes →
    stream_len shape (newest_by shape writes) reads ≤ came_of p j → all_came shape p j
came-whole shape c p j writes reads pace l there past =
    let r = replies_of p j in
    let t = shape.ticks in
    let most : r ≤ p.asked =
    replies_most p j p.is_open (p.replied j) refl refl pace.open_in (λ e. pace.none_replied e j)
    in
    let told = epochs_most shape r (p.epochs j) l.ordered in
    let fewer : r / t ≤ p.asked / t = phases-ordered t r p.asked shape.in_range.ticks_low most in
    let asked_is : reads ≡ p.asked = omega (arith, l.asked) in
    let whole : stream_len shape (newest_by shape writes) reads ≡ p.asked + p.asked / t =
    ap (stream_len shape (newest_by shape writes)) asked_is
    ∙ full-len shape (newest_by shape writes) p.asked there
    in
    (omega (arith, most, told, fewer, whole, past), omega (arith, most, told, fewer, whole, past))

-- ---- the client

all_there : (p : Pace) (j : ℕ) (b r : Bool) → p.is_open ≡ b → p.replied j ≡ r → b ≡ true → 0 < p.asked →
    replies_of p j ≡ p.asked → r ≡ true
all_there p j true true open_is replied_is opens some is = refl
all_there p j true false open_is replied_is opens some is =
    let a : replies_of p j ≡ p.asked - 1 + 0 =
    λ i. cond (open_is i) (p.asked - 1) p.asked + cond (replied_is i) 1 0
    in
    absurd (omega (arith, a, is, some))
all_there p j false r open_is replied_is opens some is = absurd (both_ways false refl opens)

pub closed-by : (shape : Shape) (p : Pace) (b : Bool) → p.is_open ≡ b → IsPace shape p →
    ((j : ℕ) → 1 ≤ j → j ≤ shape.servers → all_came shape p j) → b ≡ false
closed-by shape p true opens pace came =
    let all : all_replied shape p ≡ true =
    all_from p.replied 1 shape.servers (λ j low high.
    all_there p j p.is_open (p.replied j) refl refl opens (pace.open_in opens)
    (came j low (omega (arith, high))).0)
    in
    absurd (both_ways (all_replied shape p) pace.one_missing all)
closed-by shape p false closed pace came = refl

pub record IsDone (shape : Shape) (p : Pace) : Type 0 where
  pub closed : p.is_open ≡ false
  pub asked : p.asked ≡ turn_count shape
  pub settled_is : settled p ≡ turn_count shape

-- its read is asked once its turn is written and its epoch is known
pub none-due : (shape : Shape) (p : Pace) → IsIdle shape p → p.asked < p.written → p.is_open ≡ false →
    phases_over shape p.asked ≤ known_by shape p → ⊥
none-due shape p idle before closed known =
    let r = gone_by_ticks shape (gone_ahead shape p) in
    let asks : asks_now shape r ≡ true =
    asks_if (nat_lt r.asked r.written) r.is_open (nat_le (phases_over shape r.asked) (known_by shape r))
    (lt-ltb r.asked r.written (omega (arith, before))) closed
    (le-leb (phases_over shape r.asked) (known_by shape r) known)
    in
    both_ways (asks_now shape r) (asks-none shape p idle) asks

-- no turn is of a phase behind the last one
pub phases-few : (shape : Shape) (k : ℕ) → k ≤ turn_count shape → k / shape.ticks ≤ shape.phases
phases-few shape k low =
    let t = shape.ticks in
    subst (λ n. k / t ≤ n) (mul-div_left shape.phases shape.in_range.ticks_low)
    (phases-ordered t k (shape.phases * t) shape.in_range.ticks_low low)

asked_all : (shape : Shape) (p : Pace) → IsPace shape p → IsIdle shape p → p.written ≡ turn_count shape →
    p.is_open ≡ false → ((j : ℕ) → 1 ≤ j → j ≤ shape.servers → all_came shape p j) →
    p.asked ≡ turn_count shape
asked_all shape p pace idle written closed came =
    let t = shape.ticks in
    let few = phases-few shape p.asked (omega (arith, pace.asked_in, pace.written_in)) in
    let known : p.asked / t ≤ known_by shape p =
    least-from (p.asked / t) shape.phases p.epochs 1 shape.servers few
    (λ j low high. omega (arith, (came j low (omega (arith, high))).1))
    in
    elim (cases_lt p.asked (turn_count shape)) [
      | inl before ↦ absurd (none-due shape p idle (omega (arith, before, written)) closed known)
      | inr all ↦ omega (arith, all, pace.asked_in, written)
    ]

pub ends-done : (shape : Shape) (c : ℕ) (p : Pace) (writes reads : ℕ → ℕ → ℕ) (kinds : ℕ → List Kind) →
    IsBalancedAt shape c p writes reads kinds → p.written ≡ turn_count shape →
    ((j : ℕ) → 1 ≤ j → j ≤ shape.servers → kinds j ≡ []) →
    ((j : ℕ) → 1 ≤ j → j ≤ shape.servers → newest_by shape (writes j) ≡ shape.phases) →
    ((j : ℕ) → 1 ≤ j → j ≤ shape.servers →
    stream_len shape (newest_by shape (writes j)) (reads j c) ≤ came_of p j) → IsDone shape p
ends-done shape c p writes reads kinds h written none last past =
    let pace = h.ready.pace in
    let few = phases-few shape p.asked (omega (arith, pace.asked_in, pace.written_in)) in
    let came : (j : ℕ) → 1 ≤ j → j ≤ shape.servers → all_came shape p j =
    λ j low high.
    came-whole shape c p j (writes j) (reads j c) pace
    (subst (IsLinked shape c p j (writes j) (reads j c)) (none j low high) (h.ready.links j low high))
    (omega (arith, last j low high, few)) (past j low high)
    in
    let closed = closed-by shape p p.is_open refl pace came in
    let asked = asked_all shape p pace h.idle written closed came in
    record {
      closed = closed;
      asked = asked;
      settled_is = (λ i. cond (closed i) (p.asked - 1) p.asked) ∙ asked;
    }
