-- How many frames a server tells of so many reads, and which one is next.
use Rattle.tk_meeting.proofs.Terms.{◌≡◌, ℕ, ◌≤◌, ◌<◌, min, map, ◌+◌, ◌/◌, ◌*◌, ◌∙◌, ap, sym, arith, subst, ◌⊎◌, inl}
use Rattle.tk_meeting.proofs.Terms.{inr, ◌%◌, mul-div_left, mul-le-mul_right, div-eq_of_eq-mul_left, zero-mul, cases_eq}
use Rattle.tk_meeting.proofs.Terms.{cases_lt, length-map-range_with_len, get_or-map-range_with_len, range_with_len}
use Rattle.tk_meeting.proofs.Terms.{turn_count, Shape, least-top, least-above, closing-last, phases-stay, least}
use Rattle.tk_meeting.proofs.servers.Numbers.{phases-ordered}
use Rattle.tk_meeting.proofs.Course.{newest_by, stream_len}

-- ---- phases

-- after a reply in a turn the epoch behind it is due, if the turn closes its phase
pub order-reply : (t r e : ℕ) → 0 < t → e ≡ r / t → (e ≡ (r + 1) / t) ⊎ (r + 1 ≡ (e + 1) * t)
order-reply t r e some is = elim (cases_eq ((r + 1) % t) 0) [
  | inl closes ↦ inr (closing-last t r some closes ∙ ap (λ q. (q + 1) * t) (sym is))
  | inr stays ↦ inl (is ∙ sym (phases-stay t r some stays))
]

-- after that epoch all that are due are told
pub order-epoch : (t r e : ℕ) → 0 < t → r ≡ (e + 1) * t → e + 1 ≡ r / t
order-epoch t r e some is = sym (ap (λ x. x / t) is ∙ mul-div_left (e + 1) some)

-- before the first turn none is over
pub over_first : (shape : Shape) → 0 / shape.ticks ≡ 0
over_first shape =
    div-eq_of_eq-mul_left {n = shape.ticks} {m = 0} {k = 0} shape.in_range.ticks_low
    (sym (zero-mul shape.ticks))

-- ---- lengths

too_many : (r e n m q p : ℕ) → e ≡ p → r + e < m + min q n → m ≤ r → q ≤ p → ⊥
too_many r e n m q p is low below less = omega (arith, is, low, below, less)

-- if a reply is next, its read came
pub reply-next : (shape : Shape) (n k r e : ℕ) → e ≡ r / shape.ticks → r + e < stream_len shape n k → r < k
reply-next shape n k r e is low =
    let t = shape.ticks in
    let m = min k ((n + 1) * t) in
    elim (cases_lt r k) [
      | inl before ↦ before
      | inr past ↦
          let below : m ≤ r = omega (arith, past) in
          absurd (too_many r e n m (m / t) (r / t) is low below
          (phases-ordered t m r shape.in_range.ticks_low below))
    ]

late : (r e n m q : ℕ) → r + e < m + min q n → m ≤ r → n ≤ e → ⊥
late r e n m q low below past = omega (arith, low, below, past)

least_below : (k x r : ℕ) → x ≤ r → min k x ≤ r
least_below k x r low = omega (arith, low)

-- if an epoch is next, it is there
pub epoch-next : (shape : Shape) (n k r e : ℕ) → r ≡ (e + 1) * shape.ticks → r + e < stream_len shape n k → e < n
epoch-next shape n k r e is low =
    let t = shape.ticks in
    let m = min k ((n + 1) * t) in
    elim (cases_lt e n) [
      | inl before ↦ before
      | inr past ↦
          let more : (n + 1) * t ≤ (e + 1) * t =
          mul-le-mul_right {m = n + 1} {n = e + 1} t (omega (arith, past))
          in
          let below : m ≤ r = least_below k ((n + 1) * t) r (omega (arith, more, is)) in
          absurd (late r e n m (m / t) low below past)
    ]

-- ---- the newest epoch

pub newest-in : (shape : Shape) (writes : ℕ → ℕ) → newest_by shape writes ≤ shape.phases
newest-in shape writes =
    let turns = turn_count shape in
    let ms = map writes (range_with_len 0 shape.clients) in
    subst (λ q. least turns ms / shape.ticks ≤ q) (mul-div_left shape.phases shape.in_range.ticks_low)
    (phases-ordered shape.ticks (least turns ms) turns shape.in_range.ticks_low (least-top turns ms))

-- it is the one behind the turns that all have written
pub newest-least : (shape : Shape) (k : ℕ) (writes : ℕ → ℕ) → k ≤ turn_count shape →
    ((c : ℕ) → c < shape.clients → k ≤ writes c) → k / shape.ticks ≤ newest_by shape writes
newest-least shape k writes low each =
    let turns = turn_count shape in
    let n = shape.clients in
    let ms = map writes (range_with_len 0 n) in
    phases-ordered shape.ticks k (least turns ms) shape.in_range.ticks_low
    (least-above turns k ms low (λ i below.
    let within : i < n = omega (arith, below, length-map-range_with_len writes 0 n) in
    omega (arith, get_or-map-range_with_len writes 0 n i i 0 within (omega arith), each i within)))

-- once all have written every turn it is the last one
pub newest-last : (shape : Shape) (writes : ℕ → ℕ) →
    ((c : ℕ) → c < shape.clients → writes c ≡ turn_count shape) → newest_by shape writes ≡ shape.phases
newest-last shape writes each =
    let turns = turn_count shape in
    let n = shape.clients in
    let ms = map writes (range_with_len 0 n) in
    let high : turns ≤ least turns ms =
    least-above turns turns ms (omega arith) (λ i low.
    let within : i < n = omega (arith, low, length-map-range_with_len writes 0 n) in
    omega (arith, get_or-map-range_with_len writes 0 n i i 0 within (omega arith), each i within))
    in
    let is : least turns ms ≡ turns = omega (arith, high, least-top turns ms) in
    ap (λ x. x / shape.ticks) is ∙ mul-div_left shape.phases shape.in_range.ticks_low
