-- Where a client acted nothing is due any more.
use Rattle.tk_meeting.proofs.Terms.{◌≡◌, List, [], ◌+◌, ◌++◌, ◌-◌, Bool, true, false, replicate, ◌∙◌, refl, ap, sym}
use Rattle.tk_meeting.proofs.Terms.{arith, subst, ap₂, nat_lt, ◌&&◌, nat_le, not, Shape, phases_over}
use Rattle.tk_meeting.proofs.Pace.{Pace, Paced, Kind, Wrote, IsPace, IsIdle, first_pace, acted, known_by, count_ahead}
use Rattle.tk_meeting.proofs.Pace.{count_ticks, gone_ahead, gone_by_ticks, asks_now}
use Rattle.tk_meeting.proofs.members.Paces.{paced, written_on, count_due, asked_by, asked_on, acted-pace, acted-kinds}
use Rattle.tk_meeting.proofs.members.Paces.{written-pace}

-- where no write is due, the pace is the same
pub still : (shape : Shape) (p : Pace) → count_ahead shape p ≡ 0 → count_ticks shape p ≡ 0 →
    written_on shape p ≡ p
still shape p none_ahead none_ticks =
    let g : p.written + count_ahead shape p ≡ p.written = omega (arith, none_ahead) in
    let a : p.ahead - count_ahead shape p ≡ p.ahead = omega (arith, none_ahead) in
    let first : gone_ahead shape p ≡ p = λ i. record p { written = g i; ahead = a i } in
    let n : p.written + count_ticks shape p ≡ p.written = omega (arith, none_ticks) in
    let t : p.ticks - count_ticks shape p ≡ p.ticks = omega (arith, none_ticks) in
    let second : gone_by_ticks shape p ≡ p = λ i. record p { written = n i; ticks = t i } in
    ap (gone_by_ticks shape) first ∙ second

same-paced : {p q : Pace} {ks : List Kind} → p ≡ q → ks ≡ [] →
    paced p ks ≡ paced q []
same-paced e f = λ i. record { pace = e i; kinds = f i }

-- a pace at which neither a write nor a read is due
pub idle-when : (shape : Shape) (p : Pace) → count_ahead shape p ≡ 0 → count_ticks shape p ≡ 0 →
    asks_now shape p ≡ false → IsIdle shape p
idle-when shape p none_ahead none_ticks no_read =
    let same = still shape p none_ahead none_ticks in
    let asked : asked_on shape p ≡ paced p [] =
    ap (λ (q : Pace). asked_by (asks_now shape q) q) same ∙ ap (λ b. asked_by b p) no_read
    in
    let ticks : count_ticks shape (gone_ahead shape p) ≡ 0 = omega (arith, none_ahead, none_ticks) in
    let none : count_due shape p ≡ 0 = omega (arith, none_ahead, ticks) in
    same-paced (acted-pace shape p ∙ ap (λ (x : Paced). x.pace) asked)
    (acted-kinds shape p
    ∙ ap₂ (λ n (x : Paced). replicate n Wrote ++ x.kinds) none asked)

no-more : (b : Bool) (shape : Shape) (p : Pace) → asks_now shape p ≡ b → IsPace shape p →
    asks_now shape (asked_by b p).pace ≡ false
no-more false shape p e is = e
no-more true shape p e is = none (nat_lt (p.asked + 1) p.written)
  where
    none : (b : Bool) →
        (b && not true && nat_le (phases_over shape (p.asked + 1)) (known_by shape p)) ≡ false
    none true = refl
    none false = refl

abbrev IsDone : Shape → Pace → Type 0
IsDone shape p = (count_ahead shape p ≡ 0) × (count_ticks shape p ≡ 0)

still-done : (b : Bool) (shape : Shape) (p : Pace) → IsDone shape p →
    IsDone shape (asked_by b p).pace
still-done true shape p done = done
still-done false shape p done = done

writes-done : (shape : Shape) (p : Pace) → IsDone shape (written_on shape p)
writes-done shape p =
    (omega arith, omega arith)

pub acted-idle : (shape : Shape) (p : Pace) → IsPace shape p → IsIdle shape (acted shape p).pace
acted-idle shape p is =
    let q = written_on shape p in
    let b = asks_now shape q in
    let done = still-done b shape q (writes-done shape p) in
    subst (IsIdle shape) (sym (acted-pace shape p))
    (idle-when shape (asked_by b q).pace done.0 done.1
    (no-more b shape q refl (written-pace shape p is)))

pub first-idle : (shape : Shape) → IsIdle shape first_pace
first-idle shape =
    idle-when shape first_pace (omega arith) (omega arith) refl
