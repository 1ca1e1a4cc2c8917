-- A server whose seats are fronts of the serial run has its entries, and tells what it tells.
use Rattle.tk_meeting.proofs.Terms.{◌≡◌, ℕ, ◌≤◌, ◌<◌, min, List, [], ◌∷◌, length, map, flat_map, ◌+◌, ◌/◌, ◌∙◌, ap, sym}
use Rattle.tk_meeting.proofs.Terms.{arith, inl, inr, ◌%◌, ap₂, take, slice_index_or, get_or, cases_eq, cases_lt}
use Rattle.tk_meeting.proofs.Terms.{length-map, get_or-map, take_all, flat_map-map, length-map-range_with_len}
use Rattle.tk_meeting.proofs.Terms.{get_or-map-range_with_len, take-map-range_with_len, fill_by_all, range_with_len}
use Rattle.tk_meeting.proofs.Terms.{turn_count, WordBook, words_of, BookWords, before, Placed, ReadFrame}
use Rattle.tk_meeting.proofs.Terms.{serial-IsLegal, phases_over, phase_of, Script, frame_with, flat_map-agree}
use Rattle.tk_meeting.proofs.Terms.{before-over, write_at, entries_before, read_at, least-top, phase-before}
use Rattle.tk_meeting.proofs.Terms.{least-below, closing-none, closing-some, SameUpTo, reply-same, epoch-same, Seat}
use Rattle.tk_meeting.proofs.Terms.{least, turns_written, taken_write, empty_seat, blank_write, placed, newest, told_of}
use Rattle.tk_meeting.proofs.Terms.{turns_read, told_in, closing_told, told}
use Rattle.tk_meeting.proofs.Canonical.{serial, write_in, read_from, whole, told_in_turn, stream, AreFronts}
use Rattle.tk_meeting.proofs.Course.{newest_by}
use Rattle.tk_meeting.proofs.servers.SameEntries.{same-entries}
use Rattle.tk_meeting.proofs.members.Asking.{serial-epoch}

-- the first m of what a function gives for the numbers below k
take-numbers : {X : Type 0} (f : ℕ → X) (k m : ℕ) →
    take m (map f (range_with_len 0 k)) ≡ map f (range_with_len 0 (min k m))
take-numbers f k m = elim (cases_lt k m) [
  | inl all ↦
      let is : k ≡ min k m = omega (arith, all) in
      take_all m (map f (range_with_len 0 k)) (omega (arith, all, length-map-range_with_len f 0 k))
      ∙ ap (λ i. map f (range_with_len 0 i)) is
  | inr some ↦
      let is : m ≡ min k m = omega (arith, some) in
      take-map-range_with_len f 0 k m some ∙ ap (λ i. map f (range_with_len 0 i)) is
]

-- the read of a turn is over the epoch before its phase's
pub read-epoch : (S : Script) (b : WordBook) (c j g : ℕ) → c < S.shape.clients → g < turn_count S.shape →
    (read_from S b c j g).epoch ≡ phases_over S.shape g
unfolding read_at frame_with
read-epoch S b c j g client turn =
    serial-epoch S g c turn client

abbrev writes_count : Seat → ℕ
writes_count s = length s.writes

module _ (S : Script) (b : WordBook) (j : ℕ) (writes reads : ℕ → ℕ) (seats : List Seat)
    (fronts : AreFronts S b j writes reads seats) where
  abbrev w : BookWords
  w = words_of S.shape b

  -- so many turns all have written
  pub turns-low : turns_written S.shape seats ≤ turn_count S.shape
  unfolding turns_written
  turns-low = least-top (turn_count S.shape) (map writes_count seats)

  wrote-count : (c : ℕ) → c < S.shape.clients → get_or (map writes_count seats) c 0 ≡ writes c
  wrote-count c client =
      get_or-map writes_count seats c empty_seat 0 (omega (arith, fronts.counted, client))
      ∙ ap writes_count (fronts.each c client)
      ∙ length-map-range_with_len (write_in S b c) 0 (writes c)

  counts-are : map writes_count seats ≡ map writes (range_with_len 0 S.shape.clients)
  counts-are =
      fill_by_all writes (map writes_count seats) S.shape.clients 0
      (length-map seats writes_count ∙ fronts.counted) (λ c client. wrote-count c client)

  -- the newest epoch
  pub newest-is : newest S.shape seats ≡ newest_by S.shape writes
  unfolding turns_written
  newest-is = ap (λ ns. phases_over S.shape (least (turn_count S.shape) ns)) counts-are

  -- and each client that many at least
  pub turns-below : (c : ℕ) → c < S.shape.clients → turns_written S.shape seats ≤ writes c
  unfolding turns_written
  turns-below c client =
      let counts = map writes_count seats in
      omega (
        arith,
        least-below (turn_count S.shape) counts c 0
            (omega (arith, length-map seats writes_count, fronts.counted, client)),
        wrote-count c client,
      )

  wrote : (g c : ℕ) → g < turns_written S.shape seats → c < S.shape.clients →
      taken_write seats g c ≡ write_at S w g c
  wrote g c turn client =
      ap (λ (s : Seat). slice_index_or s.writes g blank_write) (fronts.each c client)
      ∙ get_or-map-range_with_len (write_in S b c) 0 (writes c) g g blank_write
      (omega (arith, turn, turns-below c client)) (omega arith)

  -- its entries are those of the turns that all have written
  pub placed-is : placed S.shape seats
      ≡ entries_before (write_at S w) (serial S) (turns_written S.shape seats)
  placed-is =
      same-entries S.shape (serial S) (taken_write seats) (write_at S w)
      (turns_written S.shape seats) (serial-IsLegal S.shape) turns-low wrote

  -- what stands before the mark of an epoch that is there
  pub before-is : (e : ℕ) → e ≤ newest S.shape seats →
      before (whole S b) e ≡ before (placed S.shape seats) e
  before-is e low =
      before-over S.shape (write_at S w) (serial S) (turns_written S.shape seats)
      (turn_count S.shape) e (serial-IsLegal S.shape) turns-low (omega arith) low
      ∙ ap (λ (E : List Placed). before E e) (sym placed-is)

  same-up_to : SameUpTo (newest S.shape seats) (placed S.shape seats) (whole S b)
  same-up_to = record { each = before-is }

  closing-is : (g : ℕ) →
      closing_told S.shape (placed S.shape seats) (newest S.shape seats) g
      ≡ closing_told S.shape (whole S b) (newest S.shape seats) g
  closing-is g =
      let shape = S.shape in
      let E = placed shape seats in
      let n = newest shape seats in
      elim (cases_eq ((g + 1) % shape.ticks) 0) [
        | inl closes ↦ elim (cases_lt n (phase_of shape g)) [
          | inl ahead ↦
              closing-none shape E n g (λ _. ahead) ∙ sym (closing-none shape (whole S b) n g (λ _. ahead))
          | inr over ↦
              closing-some shape E n g closes over
              ∙ ap (λ (bytes : List ℕ). bytes ∷ [])
              (sym (epoch-same shape n E (whole S b) (phase_of shape g) same-up_to over))
              ∙ sym (closing-some shape (whole S b) n g closes over)
        ]
        | inr open_still ↦
            closing-none shape E n g (λ closes. absurd (open_still closes))
            ∙ sym (closing-none shape (whole S b) n g (λ closes. absurd (open_still closes)))
      ]

  told_of-is : (r : ReadFrame) → r.epoch ≤ newest S.shape seats →
      told_of S.shape (placed S.shape seats) (newest S.shape seats) r
      ≡ told_of S.shape (whole S b) (newest S.shape seats) r
  told_of-is r low =
      ap₂ (λ (x : List ℕ) (xs : List (List ℕ)). x ∷ xs)
      (sym (reply-same S.shape (newest S.shape seats) (placed S.shape seats) (whole S b) r same-up_to low))
      (closing-is r.turn)

  -- the first reads, as far as their epochs are there
  told-newest : (c : ℕ) → c < S.shape.clients →
      told S.shape seats c ≡ stream S b c j (newest S.shape seats) (reads c)
  unfolding stream told_in
  told-newest c client =
      let shape = S.shape in
      let n = newest shape seats in
      let E = placed shape seats in
      let m = min (reads c) (turns_read shape n) in
      ap (λ (s : Seat). flat_map (told_of shape E n) (take (turns_read shape n) s.reads)) (fronts.each c client)
      ∙ ap (λ (rs : List ReadFrame). flat_map (told_of shape E n) rs)
      (take-numbers (read_from S b c j) (reads c) (turns_read shape n))
      ∙ flat_map-map (told_of shape E n) (read_from S b c j) (range_with_len 0 m)
      ∙ flat_map-agree (λ g. told_of shape E n (read_from S b c j g)) (told_in_turn S b c j n) 0 m
      (λ g _ low.
      let turn : g < turn_count shape = omega (arith, low, fronts.reads_in c client) in
      let epoch = read-epoch S b c j g client turn in
      let some = shape.in_range.ticks_low in
      let phase : g / shape.ticks < n + 1 = phase-before shape.ticks (n + 1) g some (omega (arith, low)) in
      told_of-is (read_from S b c j g) (omega (arith, epoch, phase)))

  -- what it told a client
  pub told-is : (c : ℕ) → c < S.shape.clients →
      told S.shape seats c ≡ stream S b c j (newest_by S.shape writes) (reads c)
  told-is c client = told-newest c client ∙ ap (λ n. stream S b c j n (reads c)) newest-is
