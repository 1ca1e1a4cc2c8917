-- Seats when one more write or read of a client is taken.
use Rattle.std.proofs.Common.{◌≡◌, ◌≢◌, ℕ, ◌+◌, ◌<◌, ◌≤◌, refl, ap, sym, ◌∙◌, arith, subst, inl, inr}
use Rattle.std.proofs.Common.{List, [], ◌∷◌, ◌++◌, length, map, set, get_or, length-set, get_or-set_same}
use Rattle.std.proofs.Common.{get_or-set_other, length-append}
use Rattle.std.specs.Prelude.{slice_index_or}
use Rattle.std.proofs.lemmas.Bool.{cases_lt, cases_eq}
use Rattle.std.proofs.lemmas.List.{map-set, get_or-map, length-map}
use Rattle.std.proofs.Math.Seq.{map-set_same}
use Rattle.tk_shape.specs.declared.shape.Shape.{Shape}
use Rattle.tk_shape.specs.Lengths.{turn_count}
use Rattle.tk_schedule.specs.Schedule.{serial_history}
use Rattle.tk_frames.specs.declared.write_frame.WriteFrame.{WriteFrame}
use Rattle.tk_frames.specs.declared.read_frame.ReadFrame.{ReadFrame}
use Rattle.tk_lists.proofs.Offers.{front-at, last-at}
use Rattle.tk_serve.specs.Seats.{Seat, empty_seat, seat_of, seat_with_write, seat_with_read, with_write, with_read}
use Rattle.tk_serve.specs.Seats.{IsWriteOf, IsReadDue, IsSeatOf, AreSeats, blank_write, taken_write, least}
use Rattle.tk_serve.specs.Seats.{turns_written, placed_to}
use Rattle.tk_serve.proofs.Least.{least-top, least-below, least-above, least-next}
use Rattle.tk_serve.proofs.EntryLaws.{entries-of_same}

-- ---- how many turns all have written

abbrev writes_of : Seat → ℕ
writes_of s = length s.writes

counts-at : (seats : List Seat) (c : ℕ) → c < length seats →
    get_or (map writes_of seats) c 0 ≡ length (seat_of seats c).writes
counts-at seats c low = get_or-map writes_of seats c empty_seat 0 low

pub turns-most : (shape : Shape) (seats : List Seat) → turns_written shape seats ≤ turn_count shape
unfolding turns_written
turns-most shape seats = least-top (turn_count shape) (map writes_of seats)

pub turns-below : (shape : Shape) (seats : List Seat) (c : ℕ) → c < length seats →
    turns_written shape seats ≤ length (seat_of seats c).writes
unfolding turns_written
turns-below shape seats c low =
    let counted = length-map seats writes_of in
    omega (
      arith,
      least-below (turn_count shape) (map writes_of seats) c 0 (omega (arith, counted, low)),
      counts-at seats c low,
    )

-- what each has written all have
pub turns-above : (shape : Shape) (seats : List Seat) (g : ℕ) → g ≤ turn_count shape →
    ((c : ℕ) → c < length seats → g ≤ length (seat_of seats c).writes) → g ≤ turns_written shape seats
unfolding turns_written
turns-above shape seats g most each =
    let counted = length-map seats writes_of in
    least-above (turn_count shape) g (map writes_of seats) most (λ c low.
    let there : c < length seats = omega (arith, low, counted) in
    omega (arith, each c there, counts-at seats c there))

-- ---- the seat of a client, and the others

module _ (seats : List Seat) (c : ℕ) (low : c < length seats) where
  write-own : (w : WriteFrame) → seat_of (with_write seats c w) c ≡ seat_with_write (seat_of seats c) w
  write-own w = get_or-set_same seats c (seat_with_write (seat_of seats c) w) empty_seat low

  write-other : (w : WriteFrame) (d : ℕ) → d ≢ c → seat_of (with_write seats c w) d ≡ seat_of seats d
  write-other w d other = get_or-set_other seats c d (seat_with_write (seat_of seats c) w) empty_seat other

  pub write-reads : (w : WriteFrame) (d : ℕ) → (seat_of (with_write seats c w) d).reads ≡ (seat_of seats d).reads
  write-reads w d = elim (cases_eq d c) [
    | inl same ↦
        ap (λ k. (seat_of (with_write seats c w) k).reads) same ∙ ap (λ (s : Seat). s.reads) (write-own w)
        ∙ ap (λ k. (seat_of seats k).reads) (sym same)
    | inr other ↦ ap (λ (s : Seat). s.reads) (write-other w d other)
  ]

  pub read-own : (r : ReadFrame) → seat_of (with_read seats c r) c ≡ seat_with_read (seat_of seats c) r
  read-own r = get_or-set_same seats c (seat_with_read (seat_of seats c) r) empty_seat low

  pub read-other : (r : ReadFrame) (d : ℕ) → d ≢ c → seat_of (with_read seats c r) d ≡ seat_of seats d
  read-other r d other = get_or-set_other seats c d (seat_with_read (seat_of seats c) r) empty_seat other

  read-writes : (r : ReadFrame) (d : ℕ) → (seat_of (with_read seats c r) d).writes ≡ (seat_of seats d).writes
  read-writes r d = elim (cases_eq d c) [
    | inl same ↦
        ap (λ k. (seat_of (with_read seats c r) k).writes) same ∙ ap (λ (s : Seat). s.writes) (read-own r)
        ∙ ap (λ k. (seat_of seats k).writes) (sym same)
    | inr other ↦ ap (λ (s : Seat). s.writes) (read-other r d other)
  ]

  -- ---- one more write

  -- what was written before stays
  taken-kept : (w : WriteFrame) (g d : ℕ) → g < length (seat_of seats c).writes →
      taken_write (with_write seats c w) g d ≡ taken_write seats g d
  taken-kept w g d old = elim (cases_eq d c) [
    | inl same ↦
        ap (taken_write (with_write seats c w) g) same
        ∙ ap (λ (s : Seat). slice_index_or s.writes g blank_write) (write-own w)
        ∙ front-at (seat_of seats c).writes w blank_write g old
        ∙ ap (taken_write seats g) (sym same)
    | inr other ↦ ap (λ (s : Seat). slice_index_or s.writes g blank_write) (write-other w d other)
  ]

  pub placed-kept : (shape : Shape) (w : WriteFrame) (g : ℕ) → g ≤ length (seat_of seats c).writes →
      placed_to shape (with_write seats c w) g ≡ placed_to shape seats g
  placed-kept shape w g old =
      entries-of_same (taken_write (with_write seats c w)) (taken_write seats) (serial_history shape) g
      (λ k d low. taken-kept w k d (omega (arith, low, old)))

  pub writes-longer : (w : WriteFrame) (d : ℕ) →
      length (seat_of seats d).writes ≤ length (seat_of (with_write seats c w) d).writes
  writes-longer w d = elim (cases_eq d c) [
    | inl same ↦
        let own : length (seat_of (with_write seats c w) d).writes ≡ length ((seat_of seats c).writes ++ w ∷ []) =
        ap (λ k. length (seat_of (with_write seats c w) k).writes) same
        ∙ ap (λ (s : Seat). length s.writes) (write-own w)
        in
        let was : length (seat_of seats d).writes ≡ length (seat_of seats c).writes =
        ap (λ k. length (seat_of seats k).writes) same
        in
        omega (arith, own, was, length-append (seat_of seats c).writes (w ∷ []))
    | inr other ↦ omega (arith, ap (λ (s : Seat). length s.writes) (write-other w d other))
  ]

  pub turns-kept : (shape : Shape) (w : WriteFrame) →
      turns_written shape seats ≤ turns_written shape (with_write seats c w)
  turns-kept shape w =
      turns-above shape (with_write seats c w) (turns_written shape seats) (turns-most shape seats) (λ d there.
      omega (
        arith,
        turns-below shape seats d
            (omega (arith, there, length-set seats c (seat_with_write (seat_of seats c) w))),
        writes-longer w d,
      ))

  pub turns-next : (shape : Shape) (w : WriteFrame) →
      turns_written shape (with_write seats c w) ≤ turns_written shape seats + 1
  unfolding turns_written
  turns-next shape w =
      let new = seat_with_write (seat_of seats c) w in
      let counts : map writes_of (set seats c new)
      ≡ set (map writes_of seats) c (get_or (map writes_of seats) c 0 + 1) =
      map-set writes_of seats c new
      ∙ ap (set (map writes_of seats) c)
      (length-append (seat_of seats c).writes (w ∷ []) ∙ ap (λ n. n + 1) (sym (counts-at seats c low)))
      in
      omega (
        arith,
        ap (least (turn_count shape)) counts,
        least-next (turn_count shape) (map writes_of seats) c,
      )

  -- a seat in the place of another
  seats-set : (shape : Shape) (new : Seat) → AreSeats shape seats → IsSeatOf shape c new →
      AreSeats shape (set seats c new)
  seats-set shape new are is =
      record {
        counted = length-set seats c new ∙ are.counted;
        each = λ d e there. elim (cases_eq d c) [
          | inl same ↦
              subst (λ k. IsSeatOf shape k (slice_index_or (set seats c new) k e)) (sym same)
              (subst (IsSeatOf shape c) (sym (get_or-set_same seats c new e low)) is)
          | inr other ↦
              subst (IsSeatOf shape d) (sym (get_or-set_other seats c d new e other))
              (are.each d e (omega (arith, there, length-set seats c new)))
        ];
      }

  pub seats-with_write : (shape : Shape) (w : WriteFrame) → AreSeats shape seats →
      IsWriteOf shape c (length (seat_of seats c).writes) w → AreSeats shape (with_write seats c w)
  seats-with_write shape w are is =
      let s = seat_of seats c in
      let own = are.each c empty_seat low in
      let longer = length-append s.writes (w ∷ []) in
      let turn : length s.writes < turn_count shape =
      subst (λ k. k < turn_count shape) is.at is.in_range.turn
      in
      let new : IsSeatOf shape c (seat_with_write s w) = record {
        few_writes = omega (arith, longer, turn);
        few_reads = own.few_reads;
        write_each = λ i d there. elim (cases_lt i (length s.writes)) [
          | inl before ↦
              subst (IsWriteOf shape c i) (sym (front-at s.writes w d i before)) (own.write_each i d before)
          | inr last ↦
              let here : i ≡ length s.writes = omega (arith, last, there, longer) in
              subst (λ k. IsWriteOf shape c k (slice_index_or (s.writes ++ w ∷ []) k d)) (sym here)
              (subst (IsWriteOf shape c (length s.writes)) (sym (last-at s.writes w d)) is)
        ];
        read_each = own.read_each;
      }
      in
      seats-set shape (seat_with_write s w) are new

  -- ---- one more read

  pub read-turns : (shape : Shape) (r : ReadFrame) →
      turns_written shape (with_read seats c r) ≡ turns_written shape seats
  unfolding turns_written
  read-turns shape r =
      ap (least (turn_count shape))
      (map-set_same writes_of seats c (seat_with_read (seat_of seats c) r) empty_seat refl)

  pub read-placed : (shape : Shape) (r : ReadFrame) (g : ℕ) →
      placed_to shape (with_read seats c r) g ≡ placed_to shape seats g
  read-placed shape r g =
      entries-of_same (taken_write (with_read seats c r)) (taken_write seats) (serial_history shape) g
      (λ k d _. ap (λ ws. slice_index_or ws k blank_write) (read-writes r d))

  pub seats-with_read : (shape : Shape) (r : ReadFrame) → AreSeats shape seats →
      IsReadDue shape c (length (seat_of seats c).reads) r → AreSeats shape (with_read seats c r)
  seats-with_read shape r are is =
      let s = seat_of seats c in
      let own = are.each c empty_seat low in
      let longer = length-append s.reads (r ∷ []) in
      let turn : length s.reads < turn_count shape =
      subst (λ k. k < turn_count shape) is.at is.in_range.turn
      in
      let new : IsSeatOf shape c (seat_with_read s r) = record {
        few_writes = own.few_writes;
        few_reads = omega (arith, longer, turn);
        write_each = own.write_each;
        read_each = λ i d there. elim (cases_lt i (length s.reads)) [
          | inl before ↦
              subst (IsReadDue shape c i) (sym (front-at s.reads r d i before)) (own.read_each i d before)
          | inr last ↦
              let here : i ≡ length s.reads = omega (arith, last, there, longer) in
              subst (λ k. IsReadDue shape c k (slice_index_or (s.reads ++ r ∷ []) k d)) (sym here)
              (subst (IsReadDue shape c (length s.reads)) (sym (last-at s.reads r d)) is)
        ];
      }
      in
      seats-set shape (seat_with_read s r) are new
