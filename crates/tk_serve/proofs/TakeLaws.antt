-- A write or a read that is taken, from what was before to what is after.
use Rattle.std.proofs.Common.{◌≡◌, ℕ, ◌+◌, ◌%◌, ◌<◌, ◌≤◌, refl, ap, sym, ◌∙◌, subst, arith, true, false, List, []}
use Rattle.std.proofs.Common.{◌∷◌, ◌++◌, length, set, flat_map, eq-eqb}
use Rattle.std.specs.List.{list_all, range_with_len}
use Rattle.std.proofs.lemmas.Bool.{eqb-true}
use Rattle.tk_shape.specs.declared.shape.Shape.{Shape}
use Rattle.tk_schedule.specs.Schedule.{phases_over, is_closing}
use Rattle.tk_frames.specs.declared.write_frame.WriteFrame.{WriteFrame}
use Rattle.tk_serve.specs.declared.server.Server.{Server}
use Rattle.tk_serve.specs.declared.due.Due.{Due}
use Rattle.tk_serve.specs.Seats.{Seat, seat_of, with_write, IsWriteOf, AreSeats, turns_written, newest, placed_to}
use Rattle.tk_serve.specs.Told.{packets_brought}
use Rattle.tk_serve.specs.Steps.{all_gained}
use Rattle.tk_serve.specs.Desks.{DeskView, desk}
use Rattle.tk_serve.specs.Stands.{StandsAt, HasApplied, IsDueWrite, desk_at}
use Rattle.tk_serve.proofs.Phases.{phases-step, phases-stay}
use Rattle.tk_serve.proofs.SeatLaws.{turns-kept, turns-next, turns-below, placed-kept, write-reads, seats-with_write}
use Rattle.tk_serve.proofs.StandsLaws.{desks-counted, due-is, desks-with_write, stands-with_write}
use Rattle.tk_serve.proofs.GainLaws.{GoesOn, write-tells_none, write-tells_epoch}
use Rattle.tk_serve.proofs.WrittenLaws.{waits, complete-more, incomplete-same}

-- the same seats, by other numbers of turns and epochs
pub stands-as : (shape : Shape) (seats : List Seat) (g n h m : ℕ) (s : Server) → g ≡ h → n ≡ m →
    StandsAt shape seats g n s → StandsAt shape seats h m s
stands-as shape seats g n h m s turns epochs is =
    subst (λ k. StandsAt shape seats k m s) turns (subst (λ k. StandsAt shape seats g k s) epochs is)

module _ (shape : Shape) (seats : List Seat) (s : Server) (is : HasApplied shape seats s) (w : WriteFrame)
    (due : IsDueWrite s w) where
  pub write-low : w.client < length seats
  write-low =
      subst (λ k. w.client < k)
      (desks-counted shape seats (turns_written shape seats) (newest shape seats) s is) due.low

  pub write-next : IsWriteOf shape w.client (length (seat_of seats w.client).writes) w
  write-next =
      let same = due-is shape seats (turns_written shape seats) (newest shape seats) s is w.client write-low in
      subst (λ (sh : Shape). IsWriteOf sh w.client (length (seat_of seats w.client).writes) w) is.same
      (subst (λ (d : Due). IsWriteOf s.shape w.client d.write w) same due.is)

  -- with the write on its desk
  pub write-put : (new : Server) → new.shape ≡ s.shape → new.turn ≡ s.turn → new.state ≡ s.state →
      (let d = desk_at s w.client in
      new.desks.items ≡ set s.desks.items w.client (desk (d.waiting ++ w ∷ []) d.asking d.asked)) →
      StandsAt shape (with_write seats w.client w) (turns_written shape seats) (newest shape seats) new
  write-put new same_shape same_turn same_state put =
      stands-with_write shape seats (turns_written shape seats) (newest shape seats) s is w.client w new write-low
      write-next same_shape same_turn same_state put

  goes-on : (h : ℕ) → turns_written shape (with_write seats w.client w) ≡ h →
      GoesOn shape seats (with_write seats w.client w) (turns_written shape seats) h
  goes-on h now =
      record {
        are = is.are;
        was = refl;
        now_is = now;
        later = omega (arith, now, turns-kept seats w.client write-low shape w);
        kept =
            placed-kept seats w.client write-low shape w (turns_written shape seats)
            (turns-below shape seats w.client write-low);
        reads = write-reads seats w.client write-low w;
      }

  -- the desks with the write
  abbrev pub IsPut : List DeskView → Type 0
  IsPut items =
      items
      ≡ set s.desks.items w.client
      (desk ((desk_at s w.client).waiting ++ w ∷ []) (desk_at s w.client).asking (desk_at s w.client).asked)

  next-are : AreSeats shape (with_write seats w.client w)
  next-are = seats-with_write seats w.client write-low shape w is.are write-next

  next-within : turns_written shape seats ≤ turns_written shape (with_write seats w.client w)
  next-within = turns-kept seats w.client write-low shape w

  -- where all have written the turn, one more turn is written
  pub write-completes : (items : List DeskView) → IsPut items → list_all waits items ≡ true →
      turns_written shape (with_write seats w.client w) ≡ turns_written shape seats + 1
  write-completes items put all =
      let more =
      complete-more shape (with_write seats w.client w) (turns_written shape seats) (newest shape seats) items next-are
      next-within
      (desks-with_write shape seats (turns_written shape seats)
      (newest shape seats) s is w.client w items write-low put)
      all
      in
      omega (arith, more, turns-next seats w.client write-low shape w)

  -- and else none
  pub write-same : (items : List DeskView) → IsPut items → list_all waits items ≡ false →
      turns_written shape (with_write seats w.client w) ≡ turns_written shape seats
  write-same items put none =
      incomplete-same shape (with_write seats w.client w) (turns_written shape seats)
      (newest shape seats) items next-are
      next-within
      (desks-with_write shape seats (turns_written shape seats)
      (newest shape seats) s is w.client w items write-low put)
      none

  -- where a write of some client is wanted still
  pub write-waits : (new : Server) → turns_written shape (with_write seats w.client w) ≡ turns_written shape seats →
      StandsAt shape (with_write seats w.client w) (turns_written shape seats) (newest shape seats) new →
      HasApplied shape (with_write seats w.client w) new
  write-waits new same put =
      let next = with_write seats w.client w in
      stands-as shape next (turns_written shape seats) (newest shape seats) (turns_written shape next)
      (newest shape next) new (sym same) (ap (phases_over shape) (sym same)) put

  pub write-tells-no_more : turns_written shape (with_write seats w.client w) ≡ turns_written shape seats →
      all_gained shape seats (with_write seats w.client w) ≡ []
  write-tells-no_more same =
      write-tells_none shape seats (with_write seats w.client w) (turns_written shape seats) (turns_written shape seats)
      (goes-on (turns_written shape seats) same) refl

  -- where the turn is written by all, and doesn't close its phase
  open-stays : is_closing shape (turns_written shape seats) ≡ false →
      phases_over shape (turns_written shape seats + 1) ≡ phases_over shape (turns_written shape seats)
  open-stays open_still =
      phases-stay shape.ticks (turns_written shape seats) shape.in_range.ticks_low (λ closes.
      absurd (cc (sym open_still ∙ eq-eqb ((turns_written shape seats + 1) % shape.ticks) 0 closes)))

  pub write-open : (new : Server) →
      turns_written shape (with_write seats w.client w) ≡ turns_written shape seats + 1 →
      is_closing shape (turns_written shape seats) ≡ false →
      StandsAt shape (with_write seats w.client w) (turns_written shape seats + 1) (newest shape seats) new →
      HasApplied shape (with_write seats w.client w) new
  write-open new one open_still applied =
      let next = with_write seats w.client w in
      let g = turns_written shape seats in
      stands-as shape next (g + 1) (phases_over shape g) (turns_written shape next) (newest shape next) new (sym one)
      (sym (ap (phases_over shape) one ∙ open-stays open_still)) applied

  pub write-open-tells : turns_written shape (with_write seats w.client w) ≡ turns_written shape seats + 1 →
      is_closing shape (turns_written shape seats) ≡ false → all_gained shape seats (with_write seats w.client w) ≡ []
  write-open-tells one open_still =
      write-tells_none shape seats (with_write seats w.client w) (turns_written shape seats)
      (turns_written shape seats + 1) (goes-on (turns_written shape seats + 1) one) (open-stays open_still)

  -- which closes its phase
  pub write-phase : is_closing shape (turns_written shape seats) ≡ true →
      phases_over shape (turns_written shape seats + 1) ≡ newest shape seats + 1
  write-phase closes =
      phases-step shape.ticks (turns_written shape seats) shape.in_range.ticks_low (eqb-true _ _ closes)

  pub write-closed : (new : Server) →
      turns_written shape (with_write seats w.client w) ≡ turns_written shape seats + 1 →
      is_closing shape (turns_written shape seats) ≡ true →
      StandsAt shape (with_write seats w.client w) (turns_written shape seats + 1) (newest shape seats + 1) new →
      HasApplied shape (with_write seats w.client w) new
  write-closed new one closes told =
      let next = with_write seats w.client w in
      let g = turns_written shape seats in
      stands-as shape next (g + 1) (phases_over shape g + 1) (turns_written shape next) (newest shape next) new
      (sym one)
      (sym (ap (phases_over shape) one ∙ write-phase closes)) told

  pub write-closed-tells : turns_written shape (with_write seats w.client w) ≡ turns_written shape seats + 1 →
      is_closing shape (turns_written shape seats) ≡ true →
      all_gained shape seats (with_write seats w.client w)
      ≡ flat_map (packets_brought shape (with_write seats w.client w)
      (placed_to shape (with_write seats w.client w) (turns_written shape seats + 1)) (newest shape seats + 1))
      (range_with_len 0 shape.clients)
  write-closed-tells one closes =
      write-tells_epoch shape seats (with_write seats w.client w) (turns_written shape seats)
      (turns_written shape seats + 1) (goes-on (turns_written shape seats + 1) one) (write-phase closes)
