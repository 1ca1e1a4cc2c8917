-- What a server has of a client is what it makes of that client's frames, in whatever order clients came.
use Rattle.tk_meeting.proofs.Terms.{◌≡◌, ℕ, ◌<◌, List, [], ◌∷◌, length, map, ◌+◌, ◌==◌, cond, ◌-◌, true, false, Option}
use Rattle.tk_meeting.proofs.Terms.{Some, None, ◌∙◌, refl, ap, sym, arith, drop, eqb-true, ◌≢◌, set, get_or-set_same}
use Rattle.tk_meeting.proofs.Terms.{get_or-set_other, length-set, ext_get_or, AllByRecursion, slice_index, Shape}
use Rattle.tk_meeting.proofs.Terms.{write_in, read_in, PacketView, empty-counted, seats_next, refusal_by, refusal_of}
use Rattle.tk_meeting.proofs.Terms.{Seat, seat_of, empty_seats, empty_seat, seat_with_write, seat_with_read, with_frame}
use Rattle.tk_meeting.proofs.Terms.{step_by, IsOfClient, Refusal, for_peer, frames_for, state_after, seats_from}
use Rattle.tk_meeting.proofs.Terms.{ServersStandAgain}
use Rattle.tk_serve.specs.Steps.{step}
use Rattle.tk_meeting.proofs.courses.Picks.{pick, itself}

-- ---- the seat of one client

module _ (shape : Shape) where
  abbrev seat_with : Seat → List ℕ → Seat
  seat_with s bytes =
      cond (slice_index bytes 0 == 1) (seat_with_write s (write_in shape (drop 2 bytes)))
      (seat_with_read s (read_in shape bytes))

  abbrev seat_unless : Seat → List ℕ → Option Refusal → Seat
  seat_unless s bytes (Some refusal) = s
  seat_unless s bytes None = seat_with s bytes

  -- after a frame of its client, and after several
  abbrev seat_next : ℕ → Seat → List ℕ → Seat
  seat_next c s bytes =
      seat_unless s bytes
      (refusal_by shape (record { client = c; write = length s.writes; read = length s.reads }) bytes)

  abbrev seat_by : ℕ → Seat → List (List ℕ) → Seat
  seat_by c s [] = s
  seat_by c s (frame ∷ frames) = seat_by c (seat_next c s frame) frames

  -- ---- a frame of a client changes the seat of that client alone

  module _ (seats : List Seat) (k : ℕ) (bytes : List ℕ) where
    with-is : with_frame shape seats k bytes ≡ set seats k (seat_with (seat_of seats k) bytes)
    unfolding with_frame
    with-is =
        let w = seat_with_write (seat_of seats k) (write_in shape (drop 2 bytes)) in
        let r = seat_with_read (seat_of seats k) (read_in shape bytes) in
        pick (λ b. cond b (set seats k w) (set seats k r) ≡ set seats k (cond b w r)) (slice_index bytes 0 == 1)
        (λ _. refl) (λ _. refl)

    own-with : k < length seats → seat_of (with_frame shape seats k bytes) k ≡ seat_with (seat_of seats k) bytes
    own-with low =
        ap (λ (xs : List Seat). seat_of xs k) with-is
        ∙ get_or-set_same seats k (seat_with (seat_of seats k) bytes) empty_seat low

    other-with : (d : ℕ) → d ≢ k → seat_of (with_frame shape seats k bytes) d ≡ seat_of seats d
    other-with d other =
        ap (λ (xs : List Seat). seat_of xs d) with-is
        ∙ get_or-set_other seats k d (seat_with (seat_of seats k) bytes) empty_seat other

    as-many-with : length (with_frame shape seats k bytes) ≡ length seats
    as-many-with =
        ap (λ (xs : List Seat). length xs) with-is ∙ length-set seats k (seat_with (seat_of seats k) bytes)

    own-unless : (o : Option Refusal) → k < length seats →
        seat_of (step_by shape seats k bytes o).seats k ≡ seat_unless (seat_of seats k) bytes o
    own-unless (Some refusal) low = refl
    own-unless None low = own-with low

    other-unless : (o : Option Refusal) (d : ℕ) → d ≢ k →
        seat_of (step_by shape seats k bytes o).seats d ≡ seat_of seats d
    other-unless (Some refusal) d other = refl
    other-unless None d other = other-with d other

    as-many-unless : (o : Option Refusal) → length (step_by shape seats k bytes o).seats ≡ length seats
    as-many-unless (Some refusal) = refl
    as-many-unless None = as-many-with

    own-next : k < length seats → seat_of (step shape seats k bytes).seats k ≡ seat_next k (seat_of seats k) bytes
    unfolding step
    own-next low = own-unless (refusal_of shape seats k bytes) low

    other-next : (d : ℕ) → d ≢ k → seat_of (step shape seats k bytes).seats d ≡ seat_of seats d
    unfolding step
    other-next d other = other-unless (refusal_of shape seats k bytes) d other

    as-many-next : length (step shape seats k bytes).seats ≡ length seats
    unfolding step
    as-many-next = as-many-unless (refusal_of shape seats k bytes)

  -- ---- packets

  abbrev seats_then : List Seat → List PacketView → List Seat
  seats_then seats ps = state_after (seats_next shape) seats ps

  as-many-then : (seats : List Seat) (ps : List PacketView) → length (seats_then seats ps) ≡ length seats
  as-many-then seats [] = refl
  as-many-then seats (p ∷ ps) =
      as-many-then (seats_next shape seats p) ps ∙ as-many-next seats (p.peer - 1) p.bytes

  seat-then : (seats : List Seat) (ps : List PacketView) (c : ℕ) → c < length seats →
      AllByRecursion (IsOfClient shape) ps →
      seat_of (seats_then seats ps) c ≡ seat_by c (seat_of seats c) (frames_for (c + 1) ps)
  seat-then seats [] c low all = refl
  seat-then seats (p ∷ ps) c low all =
      let k = p.peer - 1 in
      let next = seats_next shape seats p in
      let rest = for_peer (c + 1) ps in
      let more = as-many-next seats k p.bytes in
      let first = all.0.low in
      seat-then next ps c (omega (arith, low, more)) all.1
      ∙ pick (λ b. seat_by c (seat_of next c) (frames_for (c + 1) ps)
      ≡ seat_by c (seat_of seats c) (map (λ (q : PacketView). q.bytes) (cond b (p ∷ rest) rest))) (p.peer == c + 1)
      (λ is.
      let peer : p.peer ≡ c + 1 = eqb-true p.peer (c + 1) is in
      let same : c ≡ k = omega (arith, peer) in
      let own : seat_of next c ≡ seat_next c (seat_of seats c) p.bytes =
      ap (λ d. seat_of next d) same ∙ own-next seats k p.bytes (omega (arith, same, low))
      ∙ ap (λ d. seat_next d (seat_of seats d) p.bytes) (sym same)
      in
      ap (λ s. seat_by c s (frames_for (c + 1) ps)) own)
      (λ isnt.
      let apart : c ≢ k =
      λ same.
      let here : (p.peer == c + 1) ≡ (c + 1 == c + 1) =
      ap (λ n. n == c + 1) (let is : p.peer ≡ c + 1 = omega (arith, same, first) in is)
      in
      let clash : true ≡ false = sym (here ∙ itself (c + 1)) ∙ isnt in
      absurd (cc (clash))
      in
      ap (λ s. seat_by c s (frames_for (c + 1) ps)) (other-next seats k p.bytes c apart))

-- ---- from the first packet on

pub stand-again : ServersStandAgain
stand-again shape before again were are same =
    let none = empty_seats shape in
    let one = as-many-then shape none again in
    let other = as-many-then shape none before in
    ext_get_or empty_seat (seats_from shape again) (seats_from shape before) (one ∙ sym other) (λ c low.
    let there : c < length none = omega (arith, low, one) in
    let client : c < shape.clients = omega (arith, there, empty-counted shape) in
    seat-then shape none again c there are
    ∙ ap (λ frames. seat_by shape c (seat_of none c) frames) (same c client)
    ∙ sym (seat-then shape none before c there were))
