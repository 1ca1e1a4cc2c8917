-- A group is never stuck: where enough ticks came and no frame is on its way, each client wrote in all turns.
use Rattle.tk_meeting.proofs.Terms.{◌≡◌, ℕ, ◌≤◌, ◌<◌, List, [], ◌+◌, ◌/◌, ◌*◌, ◌∙◌, refl, ap, sym, zero, suc, arith}
use Rattle.tk_meeting.proofs.Terms.{subst, ◌⊎◌, inl, inr, mul-div_left, mul-le-mul_right, cases_lt, turn_count, Shape}
use Rattle.tk_meeting.proofs.Terms.{phase-past, phase-before}
use Rattle.tk_meeting.proofs.Pace.{Pace, Paced, Kind, IsIdle, known_by}
use Rattle.tk_meeting.proofs.Course.{Course, newest_by, came_of, stream_len}
use Rattle.tk_meeting.proofs.members.Paces.{count_due, acted-written}
use Rattle.tk_meeting.proofs.servers.Numbers.{length-grows}
use Rattle.tk_meeting.proofs.courses.Lengths.{newest-least}
use Rattle.tk_meeting.proofs.courses.Acting.{wrote_in}
use Rattle.tk_meeting.proofs.courses.Balanced.{IsLinked, IsBalancedAt, IsBalanced}
use Rattle.tk_meeting.proofs.courses.Ends.{all_came, full-len, came-whole, closed-by, none-due, least-from, phases-few}

-- where all frames of a server came, it told the epoch behind a phase that was read whole, if that is there
epoch_there : (shape : Shape) (n asked r e k : ℕ) → (e ≡ r / shape.ticks) ⊎ (r ≡ (e + 1) * shape.ticks) →
    k + 1 ≤ n → (k + 1) * shape.ticks ≤ asked → stream_len shape n asked ≤ r + e → k + 1 ≤ e
epoch_there shape n asked r e k ordered there read past =
    let t = shape.ticks in
    let some = shape.in_range.ticks_low in
    let over : (k + 1) * t / t ≡ k + 1 = mul-div_left (k + 1) some in
    let grows = length-grows shape (k + 1) n ((k + 1) * t) asked there read in
    let told = full-len shape (k + 1) ((k + 1) * t) (omega (arith, over)) in
    let long : (k + 1) * t + (k + 1) ≤ r + e = omega (arith, over, grows, told, past) in
    elim (cases_lt k e) [
      | inl before ↦ omega (arith, before)
      | inr few ↦ elim ordered [
        | inl is ↦ elim (cases_lt r ((k + 1) * t)) [
          | inl below ↦ omega (arith, below, long, few)
          | inr behind ↦ omega (arith, phase-past t (k + 1) r some behind, is)
        ]
        | inr is ↦
            let less : (e + 1) * t ≤ (k + 1) * t =
            mul-le-mul_right {m = e + 1} {n = k + 1} t (omega (arith, few))
            in
            omega (arith, is, less, long, few)
      ]
    ]

-- where nothing is due and a tick is left, the client wrote all of the phase behind the last epoch that it knows
waits_behind : (shape : Shape) (p : Pace) → IsIdle shape p → p.written < turn_count shape →
    turn_count shape ≤ p.written + p.ticks → (known_by shape p + 1) * shape.ticks ≤ p.written
waits_behind shape p idle before ticked =
    let same : p.written ≡ p.written + count_due shape p =
    sym (ap (λ (x : Paced). x.pace.written) idle) ∙ acted-written shape p
    in
    omega (arith, same, before, ticked)

-- so one that wrote least, and to and from which no frame is on its way, wrote in all turns: else it would know
-- of one epoch more, or its next read would be due
least_goes_on : (shape : Shape) (c : ℕ) (p : Pace) (writes reads : ℕ → ℕ → ℕ) (kinds : ℕ → List Kind) →
    IsBalancedAt shape c p writes reads kinds → p.written < turn_count shape →
    turn_count shape ≤ p.written + p.ticks →
    ((j : ℕ) → 1 ≤ j → j ≤ shape.servers → kinds j ≡ []) →
    ((j : ℕ) → 1 ≤ j → j ≤ shape.servers → p.written / shape.ticks ≤ newest_by shape (writes j)) →
    ((j : ℕ) → 1 ≤ j → j ≤ shape.servers →
    stream_len shape (newest_by shape (writes j)) (reads j c) ≤ came_of p j) → ⊥
least_goes_on shape c p writes reads kinds h before ticked none there past =
    let t = shape.ticks in
    let k = known_by shape p in
    let pace = h.ready.pace in
    let wrote : (k + 1) * t ≤ p.written = waits_behind shape p h.idle before ticked in
    let over : k + 1 ≤ p.written / t = phase-past t (k + 1) p.written shape.in_range.ticks_low wrote in
    elim (cases_lt p.asked ((k + 1) * t)) [
      | inl few ↦
          let known : p.asked / t ≤ k =
          omega (arith, phase-before t (k + 1) p.asked shape.in_range.ticks_low few)
          in
          let came : (j : ℕ) → 1 ≤ j → j ≤ shape.servers → all_came shape p j =
          λ j low high.
          came-whole shape c p j (writes j) (reads j c) pace
          (subst (IsLinked shape c p j (writes j) (reads j c)) (none j low high) (h.ready.links j low high))
          (omega (arith, known, over, there j low high)) (past j low high)
          in
          none-due shape p h.idle (omega (arith, few, wrote)) (closed-by shape p p.is_open refl pace came) known
      | inr read ↦
          let each : (j : ℕ) → 1 ≤ j → j < 1 + shape.servers → k + 1 ≤ p.epochs j =
          λ j low high.
          let most : j ≤ shape.servers = omega (arith, high) in
          let l = subst (IsLinked shape c p j (writes j) (reads j c)) (none j low most) (h.ready.links j low most) in
          let asked : reads j c ≡ p.asked = omega (arith, l.asked) in
          epoch_there shape (newest_by shape (writes j)) (reads j c) _ (p.epochs j) k l.ordered
          (omega (arith, over, there j low most)) (omega (arith, read, asked)) (past j low most)
          in
          let within : k + 1 ≤ shape.phases =
          omega (arith, over, phases-few shape p.written (omega (arith, before)))
          in
          let all : k + 1 ≤ k = least-from (k + 1) shape.phases p.epochs 1 shape.servers within each in
          omega (arith, all)
    ]

module _ (shape : Shape) (q : Course) (h : IsBalanced shape q)
    (ticked : (c : ℕ) → c < shape.clients → turn_count shape ≤ (q.paces c).written + (q.paces c).ticks)
    (none : (c j : ℕ) → c < shape.clients → 1 ≤ j → j ≤ shape.servers → q.up c j ≡ [])
    (past : (c j : ℕ) → c < shape.clients → 1 ≤ j → j ≤ shape.servers →
    stream_len shape (newest_by shape (q.writes j)) (q.reads j c) ≤ came_of (q.paces c) j) where
  -- all that was written came
  writes_came : (c j : ℕ) → c < shape.clients → 1 ≤ j → j ≤ shape.servers →
      q.writes j c ≡ (q.paces c).written
  writes_came c j low one most =
      omega (
        arith,
        ((h.each c low).ready.links j one most).wrote,
        ap (λ (ks : List Kind). wrote_in ks) (none c j low one most),
      )

  -- all wrote in so many turns
  wrote_most : (k : ℕ) → k ≤ turn_count shape → (c : ℕ) → c < shape.clients → k ≤ (q.paces c).written
  wrote_most zero within c low = omega arith
  wrote_most (suc k) within c low =
      let p = q.paces c in
      let before = wrote_most k (omega (arith, within)) in
      elim (cases_lt k p.written) [
        | inl more ↦ omega (arith, more)
        | inr most ↦
            let here : p.written ≡ k = omega (arith, most, before c low) in
            absurd (least_goes_on shape c p q.writes q.reads (q.up c) (h.each c low)
            (omega (arith, here, within)) (ticked c low) (λ j one last. none c j low one last)
            (λ j one last. newest-least shape p.written (q.writes j) (omega (arith, here, within))
            (λ d known. omega (arith, here, before d known, writes_came d j known one last)))
            (λ j one last. past c j low one last))
      ]

  pub never-stuck : (c : ℕ) → c < shape.clients → (q.paces c).written ≡ turn_count shape
  never-stuck c low =
      omega (
        arith,
        wrote_most (turn_count shape) (omega arith) c low,
        (h.each c low).ready.pace.written_in,
      )
