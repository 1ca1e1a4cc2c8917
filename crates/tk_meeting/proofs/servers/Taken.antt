-- A server takes the next write and the next read of a client that the serial run has.
use Rattle.tk_meeting.proofs.Terms.{◌≡◌, ℕ, ◌≤◌, ◌<◌, List, length, ◌+◌, ◌==◌, cond, Bool, true, false, Option, Some}
use Rattle.tk_meeting.proofs.Terms.{None, ◌∙◌, refl, ap, sym, arith, subst, drop, eq-eqb, ap₂}
use Rattle.tk_meeting.proofs.Terms.{length-map-range_with_len, ◌&&◌, turn_count, Shape, WordBook, words_of, IsBook}
use Rattle.tk_meeting.proofs.Terms.{write_passes, write-again, read_passes, read-again, write_in as write_spelled}
use Rattle.tk_meeting.proofs.Terms.{IsRead, IsWrite, AreSeeds, write_frame, read_frame, read_kind, ReadFrame, Plain}
use Rattle.tk_meeting.proofs.Terms.{Seeded, Shown, WriteFrame, phases_over, Script, write_at-client, write_at-turn}
use Rattle.tk_meeting.proofs.Terms.{write-placed, read-placed_by, told_step, step-none, write_refusal, read_refusal}
use Rattle.tk_meeting.proofs.Terms.{refusal_by, unless, write_misplaced, read_misplaced, is_read_kind, due_of, Seat}
use Rattle.tk_meeting.proofs.Terms.{seat_of, with_write, with_read, SeatsAndPackets, with_frame, Refusal, changed}
use Rattle.tk_frames.specs.declared.seeds.Seeds.{Seeds}
use Rattle.tk_serve.specs.Steps.{step}
use Rattle.tk_meeting.proofs.Canonical.{write_in, read_from, AreFronts}
use Rattle.tk_meeting.proofs.servers.Bumps.{bumped, bumped-above, newest-grows}
use Rattle.tk_meeting.proofs.servers.Fronts.{write-fronts, read-fronts}
use Rattle.tk_meeting.proofs.servers.Gains.{TakesFrame, tells-next}
use Rattle.tk_meeting.proofs.servers.InRange.{write-in_range, read-in_range}
use Rattle.tk_meeting.proofs.servers.Places.{read-client, read-turn}
use Rattle.tk_meeting.proofs.servers.Streams.{read-epoch}
use Rattle.tk_serve.specs.declared.refusal.Refusal.TheVariants as refusal

-- a test that holds refuses nothing
holds : (test : Bool) (cause : Refusal) (behind : Option Refusal) → test ≡ true → behind ≡ None →
    None ≡ unless test cause behind
holds test cause behind held none =
    sym none ∙ ap (λ (b : Bool). cond b behind (Some cause)) (sym held)

-- ---- writes

write-taken : (shape : Shape) (seats : List Seat) (c : ℕ) (w : WriteFrame) → IsWrite shape w → w.client ≡ c →
    w.turn ≡ length (seat_of seats c).writes →
    step shape seats c (write_frame w) ≡ told_step shape seats (with_write seats c w)
unfolding refusal_by with_frame
write-taken shape seats c w fits of at =
    let due = due_of seats c in
    let here : None ≡ write_misplaced due w =
    holds (w.client == c) refusal.OtherClient (unless (w.turn == due.write) refusal.OtherTurn None)
    (eq-eqb w.client c of)
    (sym (holds (w.turn == due.write) refusal.OtherTurn None (eq-eqb w.turn due.write at) refl))
    in
    let none : write_refusal shape due (write_frame w) ≡ None =
    write-placed shape due (write_frame w) w None (fits, refl) (write_passes shape w fits) here
    in
    step-none shape seats c (write_frame w) none
    ∙ ap (λ (x : WriteFrame). told_step shape seats (with_write seats c x)) (write-again shape w fits)

-- ---- reads

kind-known : (shape : Shape) (seeds : Seeds) → AreSeeds shape seeds → is_read_kind shape (read_kind seeds) ≡ true
kind-known shape Plain are = refl
kind-known shape (Seeded seeds) are = ap (λ (b : Bool). b && true) (eq-eqb shape.format 2 are.format)
kind-known shape (Shown seeds) are = ap (λ (b : Bool). b && true) (eq-eqb shape.format 2 are.format)

kind-other : (seeds : Seeds) → (read_kind seeds == 1) ≡ false
kind-other Plain = refl
kind-other (Seeded seeds) = refl
kind-other (Shown seeds) = refl

read-refusal : (shape : Shape) (seats : List Seat) (c : ℕ) (r : ReadFrame) → IsRead shape r →
    refusal_by shape (due_of seats c) (read_frame r) ≡ read_refusal shape (due_of seats c) (read_frame r)
unfolding refusal_by
read-refusal shape seats c r fits =
    let bytes = read_frame r in
    let due = due_of seats c in
    ap₂ (λ (x y : Bool). cond x (write_refusal shape due bytes)
    (cond y (read_refusal shape due bytes) (Some refusal.Kind)))
    (kind-other r.seeds) (kind-known shape r.seeds fits.seeds)

read-put : (shape : Shape) (seats : List Seat) (c : ℕ) (r : ReadFrame) → IsRead shape r →
    with_frame shape seats c (read_frame r) ≡ with_read seats c r
unfolding with_frame
read-put shape seats c r fits =
    let bytes = read_frame r in
    ap₂ (λ (b : Bool) (x : ReadFrame). cond b (with_write seats c (write_spelled shape (drop 2 bytes)))
    (with_read seats c x)) (kind-other r.seeds) (read-again shape r fits)

read-taken : (shape : Shape) (seats : List Seat) (c : ℕ) (r : ReadFrame) → IsRead shape r → r.client ≡ c →
    r.turn ≡ length (seat_of seats c).reads → r.epoch ≡ phases_over shape r.turn →
    step shape seats c (read_frame r) ≡ told_step shape seats (with_read seats c r)
read-taken shape seats c r fits of at over =
    let due = due_of seats c in
    let epoch = unless (r.epoch == phases_over shape r.turn) refusal.OtherEpoch None in
    let here : None ≡ read_misplaced shape due r =
    holds (r.client == c) refusal.OtherClient (unless (r.turn == due.read) refusal.OtherTurn epoch)
    (eq-eqb r.client c of)
    (sym (holds (r.turn == due.read) refusal.OtherTurn epoch (eq-eqb r.turn due.read at)
    (sym (holds (r.epoch == phases_over shape r.turn) refusal.OtherEpoch None
    (eq-eqb r.epoch (phases_over shape r.turn) over) refl))))
    in
    step-none shape seats c (read_frame r)
    (read-refusal shape seats c r fits
    ∙ read-placed_by shape due (read_frame r) r None (fits, refl) (read_passes shape r fits) here)
    ∙ ap (told_step shape seats) (read-put shape seats c r fits)

-- ---- frames of the serial run

module _ (S : Script) (b : WordBook) (j : ℕ) (writes reads : ℕ → ℕ) (seats : List Seat)
    (served : IsBook S.shape b) (low : 1 ≤ j) (high : j ≤ S.shape.servers)
    (fronts : AreFronts S b j writes reads seats) (c : ℕ) (client : c < S.shape.clients) where
  -- the next write of a client is taken, and each client is told what comes next
  pub write-steps : writes c < turn_count S.shape →
      TakesFrame S b j writes reads (changed c (writes c + 1) writes) reads
      (step S.shape seats c (write_frame (write_in S b c (writes c))))
  write-steps due =
      let w = write_in S b c (writes c) in
      let words = words_of S.shape b in
      let taken = write-taken S.shape seats c w (write-in_range S b c (writes c) served client due)
      (write_at-client S words (writes c) c)
      (write_at-turn S words (writes c) c
      ∙ sym (ap (λ (s : Seat). length s.writes) (fronts.each c client)
      ∙ length-map-range_with_len (write_in S b c) 0 (writes c)))
      in
      subst (λ (s : SeatsAndPackets). TakesFrame S b j writes reads (bumped c writes) reads s) (sym taken)
      (tells-next S b j writes reads (bumped c writes) reads seats (with_write seats c w) fronts
      (write-fronts S b j writes reads seats fronts c client due)
      (newest-grows S.shape writes (bumped c writes) (λ k low. bumped-above c writes k)) (λ d. omega arith))

  -- and so is its next read
  pub read-steps : reads c < turn_count S.shape →
      TakesFrame S b j writes reads writes (changed c (reads c + 1) reads)
      (step S.shape seats c (read_frame (read_from S b c j (reads c))))
  read-steps due =
      let r = read_from S b c j (reads c) in
      let turn = read-turn S b c j (reads c) in
      let taken = read-taken S.shape seats c r
      (read-in_range S b c j (reads c) served client low high due) (read-client S b c j (reads c))
      (turn
      ∙ sym (ap (λ (s : Seat). length s.reads) (fronts.each c client)
      ∙ length-map-range_with_len (read_from S b c j) 0 (reads c)))
      (read-epoch S b c j (reads c) client due ∙ ap (phases_over S.shape) (sym turn))
      in
      subst (λ (s : SeatsAndPackets). TakesFrame S b j writes reads writes (bumped c reads) s) (sym taken)
      (tells-next S b j writes reads writes (bumped c reads) seats (with_read seats c r) fronts
      (read-fronts S b j writes reads seats fronts c client due) (omega arith) (bumped-above c reads))
