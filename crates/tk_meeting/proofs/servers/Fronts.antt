-- Seats of the first writes and reads of each client, and one write or read more.
use Rattle.tk_meeting.proofs.Terms.{◌≡◌, ℕ, ◌≤◌, ◌<◌, List, length, map, ◌+◌, ◌∙◌, refl, ap, sym, arith, subst, inl}
use Rattle.tk_meeting.proofs.Terms.{inr, ◌≢◌, set, get_or-set_same, get_or-set_other, length-set, cases_eq}
use Rattle.tk_meeting.proofs.Terms.{map-range_with_len_more, range_with_len, turn_count, WordBook, ReadFrame}
use Rattle.tk_meeting.proofs.Terms.{WriteFrame, Script, Seat, seat_of, empty_seat, seat_with_write, seat_with_read}
use Rattle.tk_meeting.proofs.Terms.{with_write, with_read}
use Rattle.tk_meeting.proofs.Canonical.{write_in, read_from, seat_with, AreFronts}
use Rattle.tk_meeting.proofs.servers.Bumps.{bumped, changed-same, changed-other, bumped-within}

module _ (S : Script) (b : WordBook) (j : ℕ) (writes reads : ℕ → ℕ) (seats : List Seat)
    (fronts : AreFronts S b j writes reads seats) (c : ℕ) (client : c < S.shape.clients) where
  low : c < length seats
  low = omega (arith, client, fronts.counted)

  -- seats of which that of the client is changed
  fronts-set : (new : Seat) (later_writes later_reads : ℕ → ℕ) →
      new ≡ seat_with S b c j (later_writes c) (later_reads c) →
      ((d : ℕ) → d ≢ c → later_writes d ≡ writes d) → ((d : ℕ) → d ≢ c → later_reads d ≡ reads d) →
      ((d : ℕ) → d < S.shape.clients → later_writes d ≤ turn_count S.shape) →
      ((d : ℕ) → d < S.shape.clients → later_reads d ≤ turn_count S.shape) →
      AreFronts S b j later_writes later_reads (set seats c new)
  fronts-set new later_writes later_reads is same_writes same_reads writes_in reads_in =
      record {
        counted = length-set seats c new ∙ fronts.counted;
        each = λ d there. elim (cases_eq d c) [
          | inl same ↦
              subst (λ k. seat_of (set seats c new) k ≡ seat_with S b k j (later_writes k) (later_reads k)) (sym same)
              (get_or-set_same seats c new empty_seat low ∙ is)
          | inr other ↦
              get_or-set_other seats c d new empty_seat other ∙ fronts.each d there
              ∙ (λ i. seat_with S b d j (sym (same_writes d other) i) (sym (same_reads d other) i))
        ];
        writes_in = writes_in;
        reads_in = reads_in;
      }

  -- with the next write of a client they are the first writes and reads still
  pub write-fronts : writes c < turn_count S.shape →
      AreFronts S b j (bumped c writes) reads (with_write seats c (write_in S b c (writes c)))
  write-fronts due =
      let w = write_in S b c (writes c) in
      fronts-set (seat_with_write (seat_of seats c) w) (bumped c writes) reads
      (ap (λ (s : Seat). seat_with_write s w) (fronts.each c client)
      ∙ ap (λ (ws : List WriteFrame). record {
        writes = ws;
        reads = map (read_from S b c j) (range_with_len 0 (reads c));
      }) (sym (map-range_with_len_more (write_in S b c) 0 (writes c) (writes c) (omega arith)))
      ∙ ap (λ n. seat_with S b c j n (reads c)) (sym (changed-same c (writes c + 1) writes)))
      (λ d other. changed-other c d (writes c + 1) writes other) (λ d other. refl)
      (λ d there. bumped-within c writes d (turn_count S.shape) due (fronts.writes_in d there)) fronts.reads_in

  -- and with its next read
  pub read-fronts : reads c < turn_count S.shape →
      AreFronts S b j writes (bumped c reads) (with_read seats c (read_from S b c j (reads c)))
  read-fronts due =
      let r = read_from S b c j (reads c) in
      fronts-set (seat_with_read (seat_of seats c) r) writes (bumped c reads)
      (ap (λ (s : Seat). seat_with_read s r) (fronts.each c client)
      ∙ ap (λ (rs : List ReadFrame). record {
        writes = map (write_in S b c) (range_with_len 0 (writes c));
        reads = rs;
      }) (sym (map-range_with_len_more (read_from S b c j) 0 (reads c) (reads c) (omega arith)))
      ∙ ap (λ n. seat_with S b c j (writes c) n) (sym (changed-same c (reads c + 1) reads)))
      (λ d other. refl) (λ d other. changed-other c d (reads c + 1) reads other) fronts.writes_in
      (λ d there. bumped-within c reads d (turn_count S.shape) due (fronts.reads_in d there))
