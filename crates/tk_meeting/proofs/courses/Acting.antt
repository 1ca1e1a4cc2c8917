-- What acting does to a pace: so many writes and reads more as frames are sent, and no read is settled.
use Rattle.tk_meeting.proofs.Terms.{◌≡◌, ℕ, List, [], ◌∷◌, ◌+◌, cond, ◌++◌, ◌-◌, Bool, true, false, replicate, ◌∙◌}
use Rattle.tk_meeting.proofs.Terms.{refl, ap, sym, zero, suc, arith, nat_lt, ◌&&◌, nat_le, not, Shape, phases_over}
use Rattle.tk_meeting.proofs.Pace.{Pace, Paced, Kind, Wrote, Asked, acted, gone_ahead, gone_by_ticks, count_ahead}
use Rattle.tk_meeting.proofs.Pace.{count_ticks, asks_now, has_asked, known_by, settled}

-- how many of these are writes, and how many are reads
abbrev pub wrote_in : List Kind → ℕ
wrote_in [] = 0
wrote_in (Wrote ∷ kinds) = 1 + wrote_in kinds
wrote_in (Asked ∷ kinds) = wrote_in kinds

abbrev pub asked_in : List Kind → ℕ
asked_in [] = 0
asked_in (Wrote ∷ kinds) = asked_in kinds
asked_in (Asked ∷ kinds) = 1 + asked_in kinds

pub wrote_in-append : (xs ys : List Kind) → wrote_in (xs ++ ys) ≡ wrote_in xs + wrote_in ys
wrote_in-append [] ys = omega arith
wrote_in-append (Wrote ∷ xs) ys = omega (arith, wrote_in-append xs ys)
wrote_in-append (Asked ∷ xs) ys = wrote_in-append xs ys

pub asked_in-append : (xs ys : List Kind) → asked_in (xs ++ ys) ≡ asked_in xs + asked_in ys
asked_in-append [] ys = omega arith
asked_in-append (Wrote ∷ xs) ys = asked_in-append xs ys
asked_in-append (Asked ∷ xs) ys = omega (arith, asked_in-append xs ys)

all_wrote : (n : ℕ) → wrote_in (replicate n Wrote) ≡ n
all_wrote zero = refl
all_wrote (suc n) = omega (arith, all_wrote n)

none_asked : (n : ℕ) → asked_in (replicate n Wrote) ≡ 0
none_asked zero = refl
none_asked (suc n) = none_asked n

-- a pace that goes on as these frames are sent
pub record IsActed (p : Pace) (kinds : List Kind) (q : Pace) : Type 0 where
  pub written : q.written ≡ p.written + wrote_in kinds
  pub asked : q.asked ≡ p.asked + asked_in kinds
  pub settled_is : settled q ≡ settled p
  pub epochs : q.epochs ≡ p.epochs
  pub replied : q.replied ≡ p.replied

asked_then : (n : ℕ) (p r : Pace) (b : Bool) → r.written ≡ p.written + n → r.asked ≡ p.asked →
    r.is_open ≡ p.is_open → r.epochs ≡ p.epochs → r.replied ≡ p.replied →
    (b ≡ true → r.is_open ≡ false) →
    let last : Paced =
    cond b (record { pace = has_asked r; kinds = Asked ∷ [] }) (record { pace = r; kinds = [] })
    in
    IsActed p (replicate n Wrote ++ last.kinds) last.pace
asked_then n p r true written asked open_is epochs replied closed =
    let now = closed refl in
    let before : settled p ≡ r.asked =
    ap (λ b. cond b (p.asked - 1) p.asked) (sym open_is ∙ now) ∙ sym asked
    in
    record {
      written = omega (
        arith,
        written,
        wrote_in-append (replicate n Wrote) (Asked ∷ []),
        all_wrote n,
      );
      asked = omega (
        arith,
        asked,
        asked_in-append (replicate n Wrote) (Asked ∷ []),
        none_asked n,
      );
      settled_is = omega (arith, before);
      epochs = epochs;
      replied = replied;
    }
asked_then n p r false written asked open_is epochs replied closed =
    record {
      written = omega (arith, written, wrote_in-append (replicate n Wrote) [], all_wrote n);
      asked = omega (arith, asked, asked_in-append (replicate n Wrote) [], none_asked n);
      settled_is = λ i. cond (open_is i) (asked i - 1) (asked i);
      epochs = epochs;
      replied = replied;
    }

asks-closed : (x y z : Bool) → (x && not y && z) ≡ true → y ≡ false
asks-closed true true z h = absurd (cc h)
asks-closed true false z h = refl
asks-closed false y z h = absurd (cc h)

pub acted-is : (shape : Shape) (p : Pace) → IsActed p (acted shape p).kinds (acted shape p).pace
unfolding acted
acted-is shape p =
    let q = gone_ahead shape p in
    let r = gone_by_ticks shape q in
    asked_then (count_ahead shape p + count_ticks shape q) p r (asks_now shape r) (omega arith) refl refl refl
    refl
    (asks-closed (nat_lt r.asked r.written) r.is_open (nat_le (phases_over shape r.asked) (known_by shape r)))
