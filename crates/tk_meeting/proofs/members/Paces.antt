-- How the pace of a client goes on: it stays one that there is.
use Rattle.tk_meeting.proofs.Terms.{◌≡◌, ℕ, ◌≤◌, ◌<◌, List, [], ◌∷◌, map, ◌+◌, cond, ◌++◌, ◌-◌, Bool, true, false}
use Rattle.tk_meeting.proofs.Terms.{replicate, ◌∙◌, refl, ap, sym, zero, suc, arith, subst, ltb-true, and_parts}
use Rattle.tk_meeting.proofs.Terms.{leb-true, true≢false, false≢true, range_with_len, list_all, nat_lt, ◌&&◌, nat_le}
use Rattle.tk_meeting.proofs.Terms.{not, turn_count, Shape, phases_over, least_of, changed}
use Rattle.tk_meeting.proofs.Pace.{Pace, Paced, Kind, Wrote, Asked, IsPace, first_pace, acted, known_by, count_ahead}
use Rattle.tk_meeting.proofs.Pace.{count_ticks, gone_ahead, gone_by_ticks, asks_now, has_asked, ticked, sent_ahead}
use Rattle.tk_meeting.proofs.Pace.{with_reply_of, all_replied, closed, reply_came, epoch_came}
use Rattle.tk_meeting.proofs.courses.Picks.{at-place}

-- all writes that are due are done
abbrev pub written_on : Shape → Pace → Pace
written_on shape p = gone_by_ticks shape (gone_ahead shape p)

-- how many these are
abbrev pub count_due : Shape → Pace → ℕ
count_due shape p = count_ahead shape p + count_ticks shape (gone_ahead shape p)

abbrev pub paced : Pace → List Kind → Paced
paced p kinds = record { pace = p; kinds = kinds }

-- and then it asks, or doesn't
abbrev pub asked_by : Bool → Pace → Paced
asked_by true p = record { pace = has_asked p; kinds = Asked ∷ [] }
asked_by false p = record { pace = p; kinds = [] }

asking-is : (b : Bool) (p : Pace) →
    cond b (paced (has_asked p) (Asked ∷ [])) (paced p []) ≡ asked_by b p
asking-is true p = refl
asking-is false p = refl

abbrev pub asked_on : Shape → Pace → Paced
asked_on shape p = asked_by (asks_now shape (written_on shape p)) (written_on shape p)

pub acted-pace : (shape : Shape) (p : Pace) → (acted shape p).pace ≡ (asked_on shape p).pace
unfolding acted
acted-pace shape p =
    ap (λ (x : Paced). x.pace) (asking-is (asks_now shape (written_on shape p)) (written_on shape p))

pub acted-kinds : (shape : Shape) (p : Pace) →
    (acted shape p).kinds ≡ replicate (count_due shape p) Wrote ++ (asked_on shape p).kinds
unfolding acted
acted-kinds shape p =
    ap (λ (x : Paced). replicate (count_due shape p) Wrote ++ x.kinds)
    (asking-is (asks_now shape (written_on shape p)) (written_on shape p))

-- so many turns it wrote then
written-same : (b : Bool) (p : Pace) → (asked_by b p).pace.written ≡ p.written
written-same true p = refl
written-same false p = refl

pub acted-written : (shape : Shape) (p : Pace) →
    (acted shape p).pace.written ≡ p.written + count_due shape p
acted-written shape p =
    ap (λ (q : Pace). q.written) (acted-pace shape p)
    ∙ written-same (asks_now shape (written_on shape p)) (written_on shape p) ∙ omega arith

-- ---- one that there is stays one

pub written-pace : (shape : Shape) (p : Pace) → IsPace shape p → IsPace shape (written_on shape p)
written-pace shape p is =
    let first : p.written + count_ahead shape p ≤ turn_count shape = omega (arith, is.written_in) in
    let n = count_ticks shape (gone_ahead shape p) in
    let second : p.written + count_ahead shape p + n ≤ turn_count shape = omega (arith, first) in
    record {
      written_in = second;
      asked_in = omega (arith, is.asked_in);
      ticks_in = omega (arith, is.ticks_in);
      ahead_in = omega (arith, is.ahead_in);
      open_in = is.open_in;
      none_replied = is.none_replied;
      one_missing = is.one_missing;
      epochs_in = is.epochs_in;
      known = is.known;
    }

-- when a client asks, all of this is so
pub record Asks (shape : Shape) (p : Pace) : Type 0 where
  pub low : p.asked < p.written
  pub none_open : p.is_open ≡ false
  pub known : phases_over shape p.asked ≤ known_by shape p

not-true : (b : Bool) → not b ≡ true → b ≡ false
not-true true e = absurd (false≢true e)
not-true false e = refl

pub asks-when : (shape : Shape) (p : Pace) → asks_now shape p ≡ true → Asks shape p
asks-when shape p e =
    let outer = and_parts (nat_lt p.asked p.written && not p.is_open)
    (nat_le (phases_over shape p.asked) (known_by shape p)) e
    in
    let inner = and_parts (nat_lt p.asked p.written) (not p.is_open) outer.0 in
    record {
      low = ltb-true p.asked p.written inner.0;
      none_open = not-true p.is_open inner.1;
      known = leb-true (phases_over shape p.asked) (known_by shape p) outer.1;
    }

asked-pace : (shape : Shape) (p : Pace) (b : Bool) → asks_now shape p ≡ b → IsPace shape p →
    IsPace shape (asked_by b p).pace
asked-pace shape p false e is = is
asked-pace shape p true e is =
    let asks = asks-when shape p e in
    let back : p.asked + 1 - 1 ≡ p.asked = omega arith in
    record {
      written_in = is.written_in;
      asked_in = omega (arith, asks.low);
      ticks_in = is.ticks_in;
      ahead_in = is.ahead_in;
      open_in = λ o. omega arith;
      none_replied = λ o. absurd (true≢false o);
      one_missing = is.one_missing;
      epochs_in = is.epochs_in;
      known = λ o. subst (λ g. phases_over shape g ≤ known_by shape p) (sym back) asks.known;
    }

pub pace-acted : (shape : Shape) (p : Pace) → IsPace shape p → IsPace shape (acted shape p).pace
pace-acted shape p is =
    subst (IsPace shape) (sym (acted-pace shape p))
    (asked-pace shape (written_on shape p) (asks_now shape (written_on shape p)) refl
    (written-pace shape p is))

pub pace-ticked : (shape : Shape) (p : Pace) → IsPace shape p → IsPace shape (ticked shape p)
pace-ticked shape p is =
    record {
      written_in = is.written_in;
      asked_in = is.asked_in;
      ticks_in = omega arith;
      ahead_in = is.ahead_in;
      open_in = is.open_in;
      none_replied = is.none_replied;
      one_missing = is.one_missing;
      epochs_in = is.epochs_in;
      known = is.known;
    }

pub pace-ahead : (shape : Shape) (turns : ℕ) (p : Pace) → IsPace shape p →
    IsPace shape (sent_ahead shape turns p)
pace-ahead shape turns p is =
    record {
      written_in = is.written_in;
      asked_in = is.asked_in;
      ticks_in = is.ticks_in;
      ahead_in = omega arith;
      open_in = is.open_in;
      none_replied = is.none_replied;
      one_missing = is.one_missing;
      epochs_in = is.epochs_in;
      known = is.known;
    }

-- ---- replies

pub none-all : (n : ℕ) → 0 < n → list_all (λ (j : ℕ). false) (range_with_len 1 n) ≡ false
none-all zero low = absurd (omega (arith, low))
none-all (suc n) low = refl

replied-pace : (shape : Shape) (j : ℕ) (p : Pace) (b : Bool) → all_replied shape (with_reply_of j p) ≡ b →
    IsPace shape p → p.is_open ≡ true →
    IsPace shape (cond b (closed (with_reply_of j p)) (with_reply_of j p))
replied-pace shape j p true e is opens =
    let low : 0 < shape.servers = omega (arith, shape.in_range.servers_low) in
    record {
      written_in = is.written_in;
      asked_in = is.asked_in;
      ticks_in = is.ticks_in;
      ahead_in = is.ahead_in;
      open_in = λ o. absurd (false≢true o);
      none_replied = λ o k. refl;
      one_missing = none-all shape.servers low;
      epochs_in = is.epochs_in;
      known = λ o. absurd (false≢true o);
    }
replied-pace shape j p false e is opens =
    record {
      written_in = is.written_in;
      asked_in = is.asked_in;
      ticks_in = is.ticks_in;
      ahead_in = is.ahead_in;
      open_in = is.open_in;
      none_replied = λ o k. absurd (true≢false (sym opens ∙ o));
      one_missing = e;
      epochs_in = is.epochs_in;
      known = is.known;
    }

pub pace-replied : (shape : Shape) (j : ℕ) (p : Pace) → IsPace shape p → p.is_open ≡ true →
    IsPace shape (reply_came shape j p)
pace-replied shape j p is opens =
    replied-pace shape j p (all_replied shape (with_reply_of j p)) refl is opens

-- ---- epochs

-- one epoch more of one server
pub more-known : (top j n : ℕ) (f : ℕ → ℕ) (js : List ℕ) → f j ≤ n →
    least_of top (map f js) ≤ least_of top (map (changed j n f) js)
more-known top j n f [] more = omega arith
more-known top j n f (k ∷ js) more =
    let rest = more-known top j n f js more in
    let here : f k ≤ changed j n f k =
    at-place (λ i b. f i ≤ cond b n (f i)) j k more (λ _. omega arith)
    in
    omega (arith, rest, here)

one-within : (shape : Shape) (j n : ℕ) (f : ℕ → ℕ) → n ≤ shape.phases →
    ((k : ℕ) → f k ≤ shape.phases) → (k : ℕ) → changed j n f k ≤ shape.phases
one-within shape j n f low all k =
    at-place (λ i b. cond b n (f i) ≤ shape.phases) j k low (λ _. all k)

pub pace-epoch : (shape : Shape) (j : ℕ) (p : Pace) → IsPace shape p → p.epochs j < shape.phases →
    IsPace shape (epoch_came j p)
pace-epoch shape j p is low =
    let n = p.epochs j + 1 in
    let grows = more-known shape.phases j n p.epochs (range_with_len 1 shape.servers) (omega arith) in
    record {
      written_in = is.written_in;
      asked_in = is.asked_in;
      ticks_in = is.ticks_in;
      ahead_in = is.ahead_in;
      open_in = is.open_in;
      none_replied = is.none_replied;
      one_missing = is.one_missing;
      epochs_in = one-within shape j n p.epochs (omega (arith, low)) is.epochs_in;
      known = λ o. let before = is.known o in omega (arith, before, grows);
    }

-- ---- the first one

pub pace-first : (shape : Shape) → IsPace shape first_pace
pace-first shape =
    record {
      written_in = omega arith;
      asked_in = omega arith;
      ticks_in = omega arith;
      ahead_in = omega arith;
      open_in = λ o. absurd (false≢true o);
      none_replied = λ o j. refl;
      one_missing = none-all shape.servers (omega (arith, shape.in_range.servers_low));
      epochs_in = λ j. omega arith;
      known = λ o. absurd (false≢true o);
    }
