-- What clients are told when a write or a read is taken.
use Rattle.std.proofs.Common.{◌≡◌, ◌≢◌, ℕ, ◌+◌, ◌<◌, ◌≤◌, ap, sym, ◌∙◌, arith, subst, inl, inr}
use Rattle.std.proofs.Common.{List, [], ◌++◌, length, drop, flat_map}
use Rattle.std.specs.List.{range_with_len}
use Rattle.std.proofs.Math.Seq.{drop-append_seam, drop-length}
use Rattle.std.proofs.lemmas.Bool.{cases_eq}
use Rattle.tk_shape.specs.declared.shape.Shape.{Shape}
use Rattle.tk_shape.specs.Lengths.{turn_count}
use Rattle.tk_schedule.specs.Schedule.{phases_over}
use Rattle.tk_frames.specs.declared.read_frame.ReadFrame.{ReadFrame}
use Rattle.tk_report.proofs.Offers.{flat_map-agree}
use Rattle.tk_serve.specs.Seats.{Seat, empty_seat, seat_of, with_read, AreSeats, turns_written, placed, placed_to}
use Rattle.tk_serve.specs.Seats.{newest}
use Rattle.tk_serve.specs.Told.{told_of, told_in, told, brought, packets_brought, turns_read}
use Rattle.tk_serve.specs.Steps.{packets_to, gain, packets_gained, all_gained}
use Rattle.tk_serve.proofs.Lists.{flat_map-none, flat_map-one}
use Rattle.tk_serve.proofs.SeatLaws.{read-turns, read-placed, read-own, read-other, turns-most}
use Rattle.tk_serve.proofs.ToldLaws.{SameUpTo, AreReadsOf, told_in-same, told_in-brought, told_in-more, told_in-waits}
use Rattle.tk_serve.proofs.StandsLaws.{same-epochs}

-- ---- from what is told to the packets

gain-none : (shape : Shape) (seats new : List Seat) (c : ℕ) → told shape new c ≡ told shape seats c →
    packets_gained shape seats new c ≡ []
unfolding gain
gain-none shape seats new c same =
    ap (packets_to c)
    (ap (drop (length (told shape seats c))) same ∙ drop-length (told shape seats c))

gain-more : (shape : Shape) (seats new : List Seat) (c : ℕ) (more : List (List ℕ)) →
    told shape new c ≡ told shape seats c ++ more → packets_gained shape seats new c ≡ packets_to c more
unfolding gain
gain-more shape seats new c more grown =
    ap (packets_to c)
    (ap (drop (length (told shape seats c))) grown ∙ drop-append_seam (told shape seats c) more)

all_gained-none : (shape : Shape) (seats new : List Seat) →
    ((c : ℕ) → c < shape.clients → told shape new c ≡ told shape seats c) → all_gained shape seats new ≡ []
unfolding all_gained
all_gained-none shape seats new same =
    flat_map-none (packets_gained shape seats new) 0 shape.clients (λ c _ low.
    gain-none shape seats new c (same c (omega (arith, low))))

all_gained-one : (shape : Shape) (seats new : List Seat) (c : ℕ) (more : List (List ℕ)) → c < shape.clients →
    told shape new c ≡ told shape seats c ++ more →
    ((d : ℕ) → d < shape.clients → d ≢ c → told shape new d ≡ told shape seats d) →
    all_gained shape seats new ≡ packets_to c more
unfolding all_gained
all_gained-one shape seats new c more low grown same =
    flat_map-one (packets_gained shape seats new) shape.clients c low (λ d there other.
    gain-none shape seats new d (same d there other))
    ∙ gain-more shape seats new c more grown

-- ---- a write

-- Seats in which more turns are written, by the same reads.
pub record GoesOn (shape : Shape) (seats new : List Seat) (g h : ℕ) : Type 0 where
  pub are : AreSeats shape seats
  pub was : turns_written shape seats ≡ g
  pub now_is : turns_written shape new ≡ h
  pub later : g ≤ h
  pub kept : placed_to shape new g ≡ placed_to shape seats g
  pub reads : (d : ℕ) → (seat_of new d).reads ≡ (seat_of seats d).reads

module _ (shape : Shape) (seats new : List Seat) (g h : ℕ) (on : GoesOn shape seats new g h) where
  same-up_to : SameUpTo (phases_over shape g) (placed_to shape seats g) (placed_to shape new h)
  same-up_to =
      same-epochs shape seats new g h on.later
      (subst (λ k. k ≤ turn_count shape) on.now_is (turns-most shape new)) on.kept

  reads-of : (d : ℕ) → d < shape.clients → AreReadsOf shape d (seat_of seats d).reads
  reads-of d low = (on.are.each d empty_seat (omega (arith, low, on.are.counted))).read_each

  told-new : (d : ℕ) → told shape new d
      ≡ told_in shape (placed_to shape new h) (phases_over shape h) (seat_of seats d).reads
  told-new d =
      ap (λ k. told_in shape (placed_to shape new k) (phases_over shape k) (seat_of new d).reads) on.now_is
      ∙ ap (told_in shape (placed_to shape new h) (phases_over shape h)) (on.reads d)

  told-old : (d : ℕ) → told shape seats d
      ≡ told_in shape (placed_to shape seats g) (phases_over shape g) (seat_of seats d).reads
  told-old d = ap (λ k. told_in shape (placed_to shape seats k) (phases_over shape k) (seat_of seats d).reads) on.was

  -- where no phase more is over nobody is told anything
  pub write-keeps : phases_over shape h ≡ phases_over shape g → (d : ℕ) → d < shape.clients →
      told shape new d ≡ told shape seats d
  write-keeps same d low =
      told-new d ∙ ap (λ n. told_in shape (placed_to shape new h) n (seat_of seats d).reads) same
      ∙ told_in-same shape (phases_over shape g) (placed_to shape seats g) (placed_to shape new h) d
      (seat_of seats d).reads same-up_to (reads-of d low)
      ∙ sym (told-old d)

  pub write-tells_none : phases_over shape h ≡ phases_over shape g → all_gained shape seats new ≡ []
  write-tells_none same = all_gained-none shape seats new (write-keeps same)

  -- where one is each is told what its epoch brings
  pub write-brings : phases_over shape h ≡ phases_over shape g + 1 → (d : ℕ) → d < shape.clients →
      told shape new d
      ≡ told shape seats d ++ brought shape (placed_to shape new h) (phases_over shape g + 1) (seat_of seats d).reads
  write-brings more d low =
      let n = phases_over shape g in
      let F = placed_to shape new h in
      told-new d ∙ ap (λ k. told_in shape F k (seat_of seats d).reads) more
      ∙ told_in-brought shape n (placed_to shape seats g) F d (seat_of seats d).reads same-up_to (reads-of d low)
      ∙ ap (λ xs. xs ++ brought shape F (n + 1) (seat_of seats d).reads) (sym (told-old d))

  pub write-tells_epoch : phases_over shape h ≡ phases_over shape g + 1 →
      all_gained shape seats new
      ≡ flat_map (packets_brought shape new (placed_to shape new h) (phases_over shape g + 1))
      (range_with_len 0 shape.clients)
  unfolding all_gained
  write-tells_epoch more =
      let n = phases_over shape g in
      let F = placed_to shape new h in
      flat_map-agree (packets_gained shape seats new) (packets_brought shape new F (n + 1)) 0 shape.clients (λ d _ low.
      gain-more shape seats new d (brought shape F (n + 1) (seat_of seats d).reads)
      (write-brings more d (omega (arith, low)))
      ∙ ap (λ rs. packets_to d (brought shape F (n + 1) rs)) (sym (on.reads d)))

-- ---- a read

module _ (shape : Shape) (seats : List Seat) (c : ℕ) (r : ReadFrame) (are : AreSeats shape seats)
    (low : c < length seats) where
  told-after : (d : ℕ) → told shape (with_read seats c r) d
      ≡ told_in shape (placed shape seats) (newest shape seats) (seat_of (with_read seats c r) d).reads
  told-after d =
      let new = with_read seats c r in
      let same = read-turns seats c low shape r in
      ap (λ k. told_in shape (placed_to shape new k) (phases_over shape k) (seat_of new d).reads) same
      ∙ ap (λ E. told_in shape E (newest shape seats) (seat_of new d).reads)
      (read-placed seats c low shape r (turns_written shape seats))

  pub told-others : (d : ℕ) → d ≢ c → told shape (with_read seats c r) d ≡ told shape seats d
  told-others d other =
      told-after d
      ∙ ap (λ (s : Seat). told_in shape (placed shape seats) (newest shape seats) s.reads)
      (read-other seats c low r d other)

  -- one whose epoch is there is answered
  pub read-brings : length (seat_of seats c).reads < turns_read shape (newest shape seats) →
      told shape (with_read seats c r) c
      ≡ told shape seats c ++ told_of shape (placed shape seats) (newest shape seats) r
  read-brings there =
      told-after c
      ∙ ap (λ (s : Seat). told_in shape (placed shape seats) (newest shape seats) s.reads) (read-own seats c low r)
      ∙ told_in-more shape (placed shape seats) (newest shape seats) (seat_of seats c).reads r there

  pub read-tells : length (seat_of seats c).reads < turns_read shape (newest shape seats) →
      all_gained shape seats (with_read seats c r)
      ≡ packets_to c (told_of shape (placed shape seats) (newest shape seats) r)
  read-tells there =
      all_gained-one shape seats (with_read seats c r) c (told_of shape (placed shape seats) (newest shape seats) r)
      (subst (λ k. c < k) are.counted low)
      (read-brings there) (λ d _ other. told-others d other)

  -- one whose epoch isn't there waits
  pub read-keeps : turns_read shape (newest shape seats) ≤ length (seat_of seats c).reads →
      told shape (with_read seats c r) c ≡ told shape seats c
  read-keeps past =
      told-after c
      ∙ ap (λ (s : Seat). told_in shape (placed shape seats) (newest shape seats) s.reads) (read-own seats c low r)
      ∙ told_in-waits shape (placed shape seats) (newest shape seats) (seat_of seats c).reads r past

  pub read-waits : turns_read shape (newest shape seats) ≤ length (seat_of seats c).reads →
      all_gained shape seats (with_read seats c r) ≡ []
  read-waits past =
      all_gained-none shape seats (with_read seats c r) (λ d _. elim (cases_eq d c) [
        | inl same ↦
            ap (told shape (with_read seats c r)) same ∙ read-keeps past ∙ ap (told shape seats) (sym same)
        | inr other ↦ told-others d other
      ])
