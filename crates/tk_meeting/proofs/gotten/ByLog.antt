-- What a client tells its host of its reads tells of each log a front of what the log gives to it.
use Rattle.tk_meeting.proofs.Terms.{◌≡◌, ℕ, ◌≤◌, ◌<◌, List, [], ◌∷◌, length, flat_map, ◌+◌, ◌==◌, cond, ◌++◌, Bool}
use Rattle.tk_meeting.proofs.Terms.{true, false, filter, ◌∙◌, refl, ap, sym, zero, suc, arith, append-nil, drop, ◌⊎◌}
use Rattle.tk_meeting.proofs.Terms.{inl, inr, eq-eqb, ap₂, ne_eqb, ◌^◌, ◌≢◌, cases_lt, filter-append}
use Rattle.tk_meeting.proofs.Terms.{from_be_bytes-to_be_bytes_4, range_with_len, Shape, WordBook, words_of, Script}
use Rattle.tk_meeting.proofs.Terms.{Reader, got_in, Got, Absent, Text, flat_map-next, reader_before, PacketView, news}
use Rattle.tk_meeting.proofs.Terms.{news_from, got_packet, news_of, news_before, tells_of}
use Rattle.tk_meeting.proofs.Canonical.{serial}
use Rattle.tk_meeting.proofs.gotten.Growing.{GrowsTo, turn-grows, first-none}

-- ---- a packet

-- it tells of the log whose number its bytes give
packet-tells : (log k number : ℕ) (got : Got) → k < 2 ^ 32 →
    tells_of log (got_packet k number got) ≡ (k == log)
packet-tells log k number Absent low = rw (from_be_bytes-to_be_bytes_4 k low) refl
packet-tells log k number (Text text) low = rw (from_be_bytes-to_be_bytes_4 k low) refl

-- of these packets all tell of the log, or none does
from-tells : (log k number : ℕ) (gots : List Got) (t : Bool) → k < 2 ^ 32 → (k == log) ≡ t →
    filter (tells_of log) (news_from k number gots) ≡ cond t (news_from k number gots) []
from-tells log k number [] true low e = refl
from-tells log k number [] false low e = refl
from-tells log k number (got ∷ gots) true low e =
    let later = from-tells log k (number + 1) gots true low e in
    rw (packet-tells log k number got low ∙ e)
    (ap (λ ps. got_packet k number got ∷ ps) later)
from-tells log k number (got ∷ gots) false low e =
    let later = from-tells log k (number + 1) gots false low e in
    rw (packet-tells log k number got low ∙ e) later

-- ---- the packets of a turn

-- what the other logs give
others-tell : (log : ℕ) (before after : Reader) (a n : ℕ) → a + n ≤ 2 ^ 32 →
    (log < a) ⊎ (a + n ≤ log) →
    filter (tells_of log) (flat_map (news_of before after) (range_with_len a n)) ≡ []
others-tell log before after a zero low out = refl
others-tell log before after a (suc n) low out =
    let others = flat_map (news_of before after) (range_with_len (a + 1) n) in
    let old = length (got_in before.follows a) in
    filter-append (tells_of log) (news_of before after a) others
    ∙ ap₂ (λ (xs ys : List PacketView). xs ++ ys)
    (from-tells log a old (drop old (got_in after.follows a)) false (omega (arith, low))
    (ne_eqb a log (not_here out)))
    (others-tell log before after (a + 1) n (omega (arith, low)) (still_out out))
  where
    not_here : (log < a) ⊎ (a + suc n ≤ log) → a ≢ log
    not_here (inl less) = omega (arith, less)
    not_here (inr most) = omega (arith, most)

    still_out : (log < a) ⊎ (a + suc n ≤ log) → (log < a + 1) ⊎ (a + 1 + n ≤ log)
    still_out (inl less) = inl (omega (arith, less))
    still_out (inr most) = inr (omega (arith, most))

-- and what this one gives
log-tells : (log : ℕ) (before after : Reader) (a n : ℕ) → a + n ≤ 2 ^ 32 → a ≤ log → log < a + n →
    filter (tells_of log) (flat_map (news_of before after) (range_with_len a n))
    ≡ news_of before after log
log-tells log before after a zero low first last = absurd (omega (arith, first, last))
log-tells log before after a (suc n) low first last =
    let others = flat_map (news_of before after) (range_with_len (a + 1) n) in
    let old = length (got_in before.follows a) in
    let here = from-tells log a old (drop old (got_in after.follows a)) in
    filter-append (tells_of log) (news_of before after a) others
    ∙ elim (cases_lt a log) [
      | inl less ↦ ap₂ (λ (xs ys : List PacketView). xs ++ ys)
          (here false (omega (arith, low)) (ne_eqb a log (omega (arith, less))))
          (log-tells log before after (a + 1) n (omega (arith, low)) (omega (arith, less)) (omega (arith, last)))
      | inr most ↦
          let same : a ≡ log = omega (arith, first, most) in
          ap₂ (λ (xs ys : List PacketView). xs ++ ys)
          (here true (omega (arith, low)) (eq-eqb a log same))
          (others-tell log before after (a + 1) n (omega (arith, low)) (inl (omega (arith, same))))
          ∙ append-nil (news_of before after a) ∙ ap (news_of before after) same
    ]

turn-tells : (shape : Shape) (log : ℕ) (before after : Reader) → log < shape.logs →
    filter (tells_of log) (news shape before after) ≡ news_of before after log
turn-tells shape log before after low =
    let few = shape.in_range.logs_high in
    log-tells log before after 0 shape.logs (omega (arith, few)) (omega arith) (omega (arith, low))

-- ---- the packets of some turns

from-append : (log number : ℕ) (xs ys : List Got) →
    news_from log number (xs ++ ys) ≡ news_from log number xs ++ news_from log (number + length xs) ys
from-append log number [] ys =
    let none : number ≡ number + 0 = omega arith in
    ap (λ n. news_from log n ys) none
from-append log number (x ∷ xs) ys =
    let next : number + 1 + length xs ≡ number + suc (length xs) = omega arith in
    ap (λ ps. got_packet log number x ∷ ps)
    (from-append log (number + 1) xs ys
    ∙ ap (λ n. news_from log (number + 1) xs ++ news_from log n ys) next)

drop-front : {X : Type 0} (xs ys : List X) → drop (length xs) (xs ++ ys) ≡ ys
drop-front [] ys = refl
drop-front (x ∷ xs) ys = drop-front xs ys

-- what is new, after what was told already
news-grow : (log : ℕ) (old new : List Got) → GrowsTo old new →
    news_from log 0 old ++ news_from log (length old) (drop (length old) new) ≡ news_from log 0 new
news-grow log old new more =
    let zero_more : length old ≡ 0 + length old = omega arith in
    ap (λ gots. news_from log 0 old ++ news_from log (length old) gots)
    (ap (drop (length old)) more.is ∙ drop-front old more.rest)
    ∙ ap (λ n. news_from log 0 old ++ news_from log n more.rest) zero_more
    ∙ sym (from-append log 0 old more.rest)
    ∙ ap (news_from log 0) (sym more.is)

pub told-logs : (S : Script) (b : WordBook) (c log turns : ℕ) → log < S.shape.logs →
    filter (tells_of log) (news_before S b c turns)
    ≡ news_from log 0 (got_in (reader_before S (words_of S.shape b) (serial S) c turns).follows log)
told-logs S b c log zero low =
    ap (news_from log 0) (sym (first-none S (words_of S.shape b) (serial S) c log))
told-logs S b c log (suc n) low =
    let w = words_of S.shape b in
    let reader : ℕ → Reader = λ k. reader_before S w (serial S) c k in
    let given : ℕ → List PacketView = λ g. news S.shape (reader g) (reader (g + 1)) in
    let more : suc n ≡ n + 1 = omega arith in
    ap (λ k. filter (tells_of log) (news_before S b c k)) more
    ∙ ap (filter (tells_of log)) (flat_map-next given n)
    ∙ filter-append (tells_of log) (flat_map given (range_with_len 0 n)) (given n)
    ∙ ap₂ (λ (xs ys : List PacketView). xs ++ ys) (told-logs S b c log n low)
    (turn-tells S.shape log (reader n) (reader (n + 1)) low)
    ∙ news-grow log (got_in (reader n).follows log) (got_in (reader (n + 1)).follows log)
    (turn-grows S w (serial S) c log n)
    ∙ ap (λ k. news_from log 0 (got_in (reader k).follows log)) (sym more)
