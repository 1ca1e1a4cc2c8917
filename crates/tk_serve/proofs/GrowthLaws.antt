-- What a client is told after a packet begins with what it was told before.
use Rattle.std.proofs.Common.{◌≡◌, ℕ, ◌+◌, ◌-◌, ◌%◌, ◌<◌, refl, ap, sym, ◌∙◌, subst, arith, inl, inr, true, false, Bool}
use Rattle.std.proofs.Common.{List, [], ◌∷◌, ◌++◌, length, drop, append-nil, append_assoc, Option, Some, None}
use Rattle.std.specs.Prelude.{◌==◌, slice_index}
use Rattle.std.specs.List.{AllByRecursion}
use Rattle.std.proofs.Math.Seq.{drop-append_seam}
use Rattle.std.proofs.lemmas.Bool.{cases_lt, cases_eq}
use Rattle.tk_shape.specs.declared.shape.Shape.{Shape}
use Rattle.tk_schedule.specs.Schedule.{phases_over}
use Rattle.tk_frames.specs.declared.write_frame.WriteFrame.{WriteFrame}
use Rattle.tk_frames.specs.declared.read_frame.ReadFrame.{ReadFrame}
use Rattle.tk_frames.specs.Fields.{write_in, read_in}
use Rattle.tk_frames.proofs.Offers.{IsBytes}
use Rattle.tk_packets.specs.Packets.{PacketView}
use Rattle.tk_serve.specs.declared.refusal.Refusal.{Refusal}
use Rattle.tk_serve.specs.Seats.{Seat, empty_seats, seat_of, with_write, with_read, IsWriteOf, IsReadDue, AreSeats}
use Rattle.tk_serve.specs.Seats.{turns_written, placed, placed_to, newest}
use Rattle.tk_serve.specs.Told.{told, told_of, brought, turns_read}
use Rattle.tk_serve.specs.Refusals.{refusal_by, refusal_of, due_of, is_read_kind}
use Rattle.tk_serve.specs.Steps.{gain, with_frame, step_by, step, step_on, seats_after}
use Rattle.tk_serve.specs.Laws.{Comes}
use Rattle.tk_serve.proofs.Phases.{phases-step, phases-stay}
use Rattle.tk_serve.proofs.SeatLaws.{turns-kept, turns-next, turns-below, placed-kept, write-reads}
use Rattle.tk_serve.proofs.SeatLaws.{seats-with_write, seats-with_read}
use Rattle.tk_serve.proofs.GainLaws.{GoesOn, write-keeps, write-brings, read-brings, read-keeps, told-others}
use Rattle.tk_serve.proofs.CheckLaws.{begins-write, begins-read, begins-other}
use Rattle.tk_serve.proofs.StepLaws.{frame-write, frame-read}
use Rattle.tk_serve.proofs.OpenLaws.{empty-are}
use Rattle.tk_serve.proofs.PassedLaws.{passed-write, passed-read}

-- what is told by some seats, and behind it what is gained by others
abbrev Grows : Shape → List Seat → List Seat → ℕ → Type 0
Grows shape seats new c = told shape new c ≡ told shape seats c ++ gain shape seats new c

grows-by : (shape : Shape) (seats new : List Seat) (c : ℕ) (more : List (List ℕ)) →
    told shape new c ≡ told shape seats c ++ more → Grows shape seats new c
unfolding gain
grows-by shape seats new c more grown =
    let was = told shape seats c in
    grown
    ∙ ap (λ xs. was ++ xs) (sym (ap (drop (length was)) grown ∙ drop-append_seam was more))

grows-same : (shape : Shape) (seats new : List Seat) (c : ℕ) → told shape new c ≡ told shape seats c →
    Grows shape seats new c
grows-same shape seats new c same =
    grows-by shape seats new c [] (same ∙ sym (append-nil (told shape seats c)))

-- seats that may come after others
record Follows (shape : Shape) (seats new : List Seat) : Type 0 where
  pub are : AreSeats shape new
  pub grows : (c : ℕ) → c < shape.clients → Grows shape seats new c

follows-same : (shape : Shape) (seats : List Seat) → AreSeats shape seats → Follows shape seats seats
follows-same shape seats are = record { are = are; grows = λ c _. grows-same shape seats seats c refl }

module _ (shape : Shape) (seats : List Seat) (k : ℕ) (are : AreSeats shape seats) (low : k < length seats) where
  write-grows : (w : WriteFrame) (c : ℕ) → c < shape.clients → Grows shape seats (with_write seats k w) c
  write-grows w c there =
      let new = with_write seats k w in
      let g = turns_written shape seats in
      let h = turns_written shape new in
      let some = shape.in_range.ticks_low in
      let kept = turns-kept seats k low shape w in
      let on : GoesOn shape seats new g h = record {
        are = are;
        was = refl;
        now_is = refl;
        later = kept;
        kept = placed-kept seats k low shape w g (turns-below shape seats k low);
        reads = write-reads seats k low w;
      }
      in
      let more = brought shape (placed_to shape new h) (phases_over shape g + 1) (seat_of seats c).reads in
      elim (cases_lt g h) [
        | inl later ↦
            let one : h ≡ g + 1 = omega (arith, later, turns-next seats k low shape w) in
            elim (cases_eq ((g + 1) % shape.ticks) 0) [
              | inl closes ↦
                  grows-by shape seats new c more
                  (write-brings shape seats new g h on
                  (ap (phases_over shape) one ∙ phases-step shape.ticks g some closes) c there)
              | inr open_still ↦
                  grows-same shape seats new c
                  (write-keeps shape seats new g h on
                  (ap (phases_over shape) one ∙ phases-stay shape.ticks g some open_still) c there)
            ]
        | inr not_later ↦
            let same : h ≡ g = omega (arith, not_later, kept) in
            grows-same shape seats new c
            (write-keeps shape seats new g h on (ap (phases_over shape) same) c there)
      ]

  read-grows : (r : ReadFrame) (c : ℕ) → Grows shape seats (with_read seats k r) c
  read-grows r c =
      let new = with_read seats k r in
      elim (cases_eq c k) [
        | inl same ↦
            subst (Grows shape seats new) (sym same)
            (elim (cases_lt (length (seat_of seats k).reads) (turns_read shape (newest shape seats))) [
              | inl there ↦
                  grows-by shape seats new k (told_of shape (placed shape seats) (newest shape seats) r)
                  (read-brings shape seats k r are low there)
              | inr past ↦ grows-same shape seats new k (read-keeps shape seats k r are low past)
            ])
        | inr other ↦ grows-same shape seats new c (told-others shape seats k r are low c other)
      ]

  write-follows : (w : WriteFrame) → IsWriteOf shape k (length (seat_of seats k).writes) w →
      Follows shape seats (with_write seats k w)
  write-follows w is = record { are = seats-with_write seats k low shape w are is; grows = write-grows w }

  read-follows : (r : ReadFrame) → IsReadDue shape k (length (seat_of seats k).reads) r →
      Follows shape seats (with_read seats k r)
  read-follows r is =
      record { are = seats-with_read seats k low shape r are is; grows = λ c _. read-grows r c }

  -- ---- a frame that isn't refused

  module _ (bytes : List ℕ) (fits : IsBytes bytes) where
    by-write : (slice_index bytes 0 == 1) ≡ true → refusal_by shape (due_of seats k) bytes ≡ None →
        Follows shape seats (with_frame shape seats k bytes)
    by-write begins none =
        let w = write_in shape (drop 2 bytes) in
        subst (Follows shape seats) (sym (frame-write shape seats k bytes w begins refl))
        (write-follows w
        (passed-write shape (due_of seats k) bytes fits
        (sym (begins-write shape (due_of seats k) bytes begins) ∙ none)))

    by-read : (slice_index bytes 0 == 1) ≡ false → (b : Bool) → is_read_kind shape (slice_index bytes 0) ≡ b →
        refusal_by shape (due_of seats k) bytes ≡ None → Follows shape seats (with_frame shape seats k bytes)
    by-read other true begins none =
        let r = read_in shape bytes in
        subst (Follows shape seats) (sym (frame-read shape seats k bytes r other refl))
        (read-follows r
        (passed-read shape (due_of seats k) bytes fits
        (sym (begins-read shape (due_of seats k) bytes other begins) ∙ none)))
    by-read other false neither none =
        absurd (cc (sym (begins-other shape (due_of seats k) bytes other neither) ∙ none))

    by-kind : (b : Bool) → (slice_index bytes 0 == 1) ≡ b → refusal_by shape (due_of seats k) bytes ≡ None →
        Follows shape seats (with_frame shape seats k bytes)
    by-kind true begins none = by-write begins none
    by-kind false other none = by-read other (is_read_kind shape (slice_index bytes 0)) refl none

    by-refusal : (o : Option Refusal) → refusal_of shape seats k bytes ≡ o →
        Follows shape seats (step_by shape seats k bytes o).seats
    by-refusal None none = by-kind (slice_index bytes 0 == 1) refl none
    by-refusal (Some cause) refused = follows-same shape seats are

    step-follows : Follows shape seats (step shape seats k bytes).seats
    unfolding step
    step-follows = by-refusal (refusal_of shape seats k bytes) refl

-- ---- a packet of a client

follows : (shape : Shape) (seats : List Seat) (p : PacketView) → AreSeats shape seats → Comes shape p →
    Follows shape seats (step_on shape seats p).seats
follows shape seats p are comes =
    step-follows shape seats (p.peer - 1) are
    (omega (arith, comes.of_client.low, comes.of_client.high, are.counted)) p.bytes comes.of_bytes

pub seats-still : (shape : Shape) (seats : List Seat) (p : PacketView) → AreSeats shape seats → Comes shape p →
    AreSeats shape (step_on shape seats p).seats
seats-still shape seats p are comes = (follows shape seats p are comes).are

pub told-grows : (shape : Shape) (seats : List Seat) (p : PacketView) (c : ℕ) → AreSeats shape seats →
    Comes shape p → c < shape.clients →
    told shape (step_on shape seats p).seats c
    ≡ told shape seats c ++ gain shape seats (step_on shape seats p).seats c
told-grows shape seats p c are comes low = (follows shape seats p are comes).grows c low

-- ---- packets one after the other

told-on : (shape : Shape) (seats : List Seat) (qs : List PacketView) (c : ℕ) → AreSeats shape seats →
    AllByRecursion (Comes shape) qs → c < shape.clients →
    (more : List (List ℕ)) × (told shape (seats_after shape seats qs) c ≡ told shape seats c ++ more)
told-on shape seats [] c are all low = ([], sym (append-nil (told shape seats c)))
told-on shape seats (q ∷ qs) c are all low =
    let next = (step_on shape seats q).seats in
    let one = gain shape seats next c in
    let later = told-on shape next qs c (seats-still shape seats q are all.0) all.1 low in (
      one ++ later.0,
      later.1 ∙ ap (λ xs. xs ++ later.0) (told-grows shape seats q c are all.0 low)
          ∙ append_assoc (told shape seats c) one later.0,
    )

told-after : (shape : Shape) (seats : List Seat) (ps qs : List PacketView) (c : ℕ) → AreSeats shape seats →
    AllByRecursion (Comes shape) (ps ++ qs) → c < shape.clients →
    (more : List (List ℕ))
    × (told shape (seats_after shape seats (ps ++ qs)) c ≡ told shape (seats_after shape seats ps) c ++ more)
told-after shape seats [] qs c are all low = told-on shape seats qs c are all low
told-after shape seats (p ∷ ps) qs c are all low =
    told-after shape (step_on shape seats p).seats ps qs c (seats-still shape seats p are all.0) all.1 low

pub told-stays : (shape : Shape) (ps qs : List PacketView) (c : ℕ) → AllByRecursion (Comes shape) (ps ++ qs) →
    c < shape.clients →
    (more : List (List ℕ))
    × (told shape (seats_after shape (empty_seats shape) (ps ++ qs)) c
    ≡ told shape (seats_after shape (empty_seats shape) ps) c ++ more)
told-stays shape ps qs c all low = told-after shape (empty_seats shape) ps qs c (empty-are shape) all low
