-- The epochs that a server keeps, and what it tells of them.
use Rattle.std.proofs.Common.{◌≡◌, ℕ, ◌+◌, ◌*◌, ◌/◌, ◌^◌, ◌<◌, ◌≤◌, ap, ap₂, sym, ◌∙◌, subst, arith, true}
use Rattle.std.proofs.Common.{List, [], ◌∷◌, length, take, flat_map, inl, inr}
use Rattle.std.specs.Prelude.{slice_index_or, All}
use Rattle.std.specs.List.{range_with_len}
use Rattle.std.proofs.lemmas.Bool.{eqb-true, cases_lt}
use Rattle.std.proofs.lemmas.List.Elements.{All-from_get_or}
use Rattle.std.proofs.Math.Nat.{div-mul-le_self}
use Rattle.tk_shape.specs.declared.shape.Shape.{Shape}
use Rattle.tk_schedule.specs.Schedule.{phases_over, phase_of, is_closing}
use Rattle.tk_frames.specs.declared.read_frame.ReadFrame.{ReadFrame}
use Rattle.tk_frames.proofs.Offers.{turn_count_small}
use Rattle.tk_replica.specs.declared.epoch.Epoch.{Epoch}
use Rattle.tk_replica.specs.Epochs.{IsEpochOf}
use Rattle.tk_serve.specs.declared.server.Server.{Server}
use Rattle.tk_serve.specs.declared.due.Due.{Due}
use Rattle.tk_serve.specs.Seats.{Seat, empty_seat, seat_of, IsReadDue, taken_write, turns_written, placed, placed_to}
use Rattle.tk_serve.specs.Seats.{newest}
use Rattle.tk_serve.specs.Told.{packets_brought, epoch_bytes, closing_told, turns_read}
use Rattle.tk_serve.specs.Desks.{DeskView, empty_desk}
use Rattle.tk_serve.specs.Answering.{IsAnswerable, news_for}
use Rattle.tk_serve.specs.Stands.{StandsAt, HasApplied, IsDueRead}
use Rattle.tk_serve.proofs.Phases.{phase-before, phase-past}
use Rattle.tk_serve.proofs.EntryLaws.{turns-marks}
use Rattle.tk_serve.proofs.SeatLaws.{turns-most}
use Rattle.tk_serve.proofs.StandsLaws.{desks-counted, desk-at, due-is}
use Rattle.tk_serve.proofs.ToldLaws.{closing-none, closing-some}
use Rattle.tk_serve.proofs.AnswerLaws.{may-answer, news-all}

-- ---- all clients

module _ (shape : Shape) (seats : List Seat) (g n : ℕ) (s : Server) (is : StandsAt shape seats g n s)
    (more : phases_over shape g ≡ n + 1) where
  pub last-is : s.state.last ≡ n + 1
  last-is =
      (is.state_is).last
      ∙ turns-marks shape (taken_write seats) g (omega (arith, is.within, turns-most shape seats))
      ∙ more

  pub tell-small : (n + 1) * shape.ticks < 2 ^ 32
  tell-small =
      let whole : g / shape.ticks * shape.ticks ≤ g = div-mul-le_self g shape.ticks in
      let same : g / shape.ticks * shape.ticks ≡ (n + 1) * shape.ticks = ap (λ k. k * shape.ticks) more in
      omega (arith, whole, same, is.within, turns-most shape seats, turn_count_small shape)

  pub tell-reads : (epoch : Epoch) → epoch.shape ≡ shape →
      All (λ (d : DeskView). All (IsAnswerable epoch) (take s.shape.ticks d.asking)) s.desks.items
  tell-reads epoch same =
      All-from_get_or (λ (d : DeskView). All (IsAnswerable epoch) (take s.shape.ticks d.asking)) s.desks.items empty_desk
      (λ c low.
      let there : c < length seats = omega (arith, low, desks-counted shape seats g n s is) in
      subst (λ (sh : Shape). All (IsAnswerable epoch) (take sh.ticks (slice_index_or s.desks.items c empty_desk).asking))
      (sym is.same)
      (subst (λ (d : DeskView). All (IsAnswerable epoch) (take shape.ticks d.asking))
      (sym (desk-at shape seats g n s is c empty_desk there))
      (may-answer shape (n + 1) c (seat_of seats c).reads (is.are.each c empty_seat there).read_each epoch same
      (subst (λ k. c < k) is.are.counted there))))

  pub tell-told : (epoch : Epoch) → IsEpochOf shape (placed_to shape seats g) (n + 1) epoch →
      news_for s.shape epoch 0 s.desks.items
      ≡ flat_map (packets_brought shape seats (placed_to shape seats g) (n + 1)) (range_with_len 0 shape.clients)
  tell-told epoch kept =
      ap₂ (λ (sh : Shape) (ds : List DeskView). news_for sh epoch 0 ds) is.same is.desks_are
      ∙ news-all shape (placed_to shape seats g) g n epoch seats kept is.are

-- ---- one client

module _ (shape : Shape) (seats : List Seat) (s : Server) (is : HasApplied shape seats s) (r : ReadFrame)
    (due : IsDueRead s r) where
  pub read-low : r.client < length seats
  read-low =
      subst (λ k. r.client < k)
      (desks-counted shape seats (turns_written shape seats) (newest shape seats) s is) due.low

  pub read-next : IsReadDue shape r.client (length (seat_of seats r.client).reads) r
  read-next =
      let same = due-is shape seats (turns_written shape seats) (newest shape seats) s is r.client read-low in
      subst (λ (sh : Shape). IsReadDue sh r.client (length (seat_of seats r.client).reads) r) is.same
      (subst (λ (d : Due). IsReadDue s.shape r.client d.read r) same due.is)

  pub last-newest : s.state.last ≡ newest shape seats
  last-newest =
      (is.state_is).last
      ∙ turns-marks shape (taken_write seats) (turns_written shape seats) (turns-most shape seats)

  -- where its epoch is there, it is one of the turns that read over those that are
  pub read-there : r.epoch ≤ s.state.last →
      length (seat_of seats r.client).reads < turns_read shape (newest shape seats)
  read-there low =
      let g = length (seat_of seats r.client).reads in
      let over = read-next.over in
      elim (cases_lt g (turns_read shape (newest shape seats))) [
        | inl there ↦ there
        | inr past ↦
            absurd (omega (
              arith,
              over,
              last-newest,
              low,
              phase-past shape.ticks (newest shape seats + 1) g shape.in_range.ticks_low past,
            ))
      ]

  pub read-past : s.state.last < r.epoch → turns_read shape (newest shape seats) ≤ length (seat_of seats r.client).reads
  read-past ahead =
      let g = length (seat_of seats r.client).reads in
      let over = read-next.over in
      elim (cases_lt g (turns_read shape (newest shape seats))) [
        | inl there ↦
            absurd (omega (
              arith,
              over,
              last-newest,
              ahead,
              phase-before shape.ticks (newest shape seats + 1) g shape.in_range.ticks_low there,
            ))
        | inr past ↦ past
      ]

  -- the turn's phase is the one after the epoch that is read
  pub read-phase : phase_of shape r.turn ≡ r.epoch + 1
  read-phase = ap (λ k. k / shape.ticks + 1) read-next.at ∙ ap (λ k. k + 1) (sym read-next.over)

  pub tells-closing : is_closing s.shape r.turn ≡ true → r.epoch + 1 ≤ s.state.last →
      closing_told shape (placed shape seats) (newest shape seats) r.turn
      ≡ epoch_bytes shape (placed shape seats) (r.epoch + 1) ∷ []
  tells-closing closes low =
      closing-some shape (placed shape seats) (newest shape seats) r.turn
      (eqb-true _ _ (ap (λ (sh : Shape). is_closing sh r.turn) (sym is.same) ∙ closes))
      (omega (arith, read-phase, low, last-newest))
      ∙ ap (λ e. epoch_bytes shape (placed shape seats) e ∷ []) read-phase

  pub tells-no_more : s.state.last < r.epoch + 1 →
      closing_told shape (placed shape seats) (newest shape seats) r.turn ≡ []
  tells-no_more high =
      closing-none shape (placed shape seats) (newest shape seats) r.turn
      (λ _. omega (arith, read-phase, high, last-newest))
