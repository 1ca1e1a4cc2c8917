-- A step, by what its frame is found to be.
use Rattle.std.proofs.Common.{◌≡◌, ℕ, ◌+◌, ◌<◌, ap, ap₂, sym, ◌∙◌, subst, arith, true, false, cond, List, [], ◌∷◌}
use Rattle.std.proofs.Common.{◌++◌, length, drop, Some, None}
use Rattle.std.specs.Prelude.{slice_index, ◌==◌}
use Rattle.tk_shape.specs.declared.shape.Shape.{Shape}
use Rattle.tk_frames.specs.declared.write_frame.WriteFrame.{WriteFrame}
use Rattle.tk_frames.specs.declared.read_frame.ReadFrame.{ReadFrame}
use Rattle.tk_frames.specs.Fields.{write_in, read_in}
use Rattle.tk_packets.specs.Packets.{PacketView, packet}
use Rattle.tk_packets.specs.Frames.{refused_frame}
use Rattle.tk_serve.specs.declared.server.Server.{Server}
use Rattle.tk_serve.specs.declared.due.Due.{Due}
use Rattle.tk_serve.specs.declared.refusal.Refusal.{Refusal}
use Rattle.tk_serve.specs.Seats.{Seat, with_write, with_read, turns_written, newest}
use Rattle.tk_serve.specs.Refusals.{refusal_by, due_of, code_of}
use Rattle.tk_serve.specs.declared.check.Checked.TheVariants.{Write, Read, Refused}
use Rattle.tk_serve.specs.Checked.{IsAccepted, IsTakenWrite, IsTakenRead, IsChecked}
use Rattle.tk_serve.specs.Steps.{SeatsAndPackets, step_by, step, with_frame, all_gained}
use Rattle.tk_serve.specs.Stands.{HasApplied, due_at}
use Rattle.tk_serve.proofs.StandsLaws.{due-is}

-- seats, and what clients are told when these come after others
abbrev pub told_step : Shape → List Seat → List Seat → SeatsAndPackets
told_step shape seats new = record { seats = new; packets = all_gained shape seats new }

-- the same seats, and a client is told why its frame was refused
abbrev pub refused_step : List Seat → ℕ → Refusal → SeatsAndPackets
refused_step seats c cause =
    record { seats = seats; packets = packet (c + 1) (refused_frame (code_of cause)) ∷ [] }

pub step-none : (shape : Shape) (seats : List Seat) (c : ℕ) (bytes : List ℕ) →
    refusal_by shape (due_of seats c) bytes ≡ None →
    step shape seats c bytes ≡ told_step shape seats (with_frame shape seats c bytes)
unfolding step
step-none shape seats c bytes none = ap (step_by shape seats c bytes) none

pub frame-write : (shape : Shape) (seats : List Seat) (c : ℕ) (bytes : List ℕ) (w : WriteFrame) →
    (slice_index bytes 0 == 1) ≡ true → w ≡ write_in shape (drop 2 bytes) →
    with_frame shape seats c bytes ≡ with_write seats c w
unfolding with_frame
frame-write shape seats c bytes w begins spelled =
    ap (λ b. cond b (with_write seats c (write_in shape (drop 2 bytes)))
    (with_read seats c (read_in shape bytes))) begins
    ∙ ap (with_write seats c) (sym spelled)

pub frame-read : (shape : Shape) (seats : List Seat) (c : ℕ) (bytes : List ℕ) (r : ReadFrame) →
    (slice_index bytes 0 == 1) ≡ false → r ≡ read_in shape bytes →
    with_frame shape seats c bytes ≡ with_read seats c r
unfolding with_frame
frame-read shape seats c bytes r begins spelled =
    ap (λ b. cond b (with_write seats c (write_in shape (drop 2 bytes)))
    (with_read seats c (read_in shape bytes))) begins
    ∙ ap (with_read seats c) (sym spelled)

-- ---- a step that is known

module _ (shape : Shape) (seats : List Seat) (c : ℕ) (bytes : List ℕ) (known : SeatsAndPackets)
    (is : step shape seats c bytes ≡ known)
  where
    pub step-stands : (new : Server) → HasApplied shape known.seats new → HasApplied shape (step shape seats c bytes).seats new
    step-stands new stands = subst (λ (st : SeatsAndPackets). HasApplied shape st.seats new) (sym is) stands

    pub step-told : (first out : List PacketView) → out ≡ first ++ known.packets →
        out ≡ first ++ (step shape seats c bytes).packets
    step-told first out told = subst (λ (st : SeatsAndPackets). out ≡ first ++ st.packets) (sym is) told

-- What is checked against a server's due is checked against that of its seats.
module _ (shape : Shape) (seats : List Seat) (s : Server) (c : ℕ) (bytes : List ℕ) (stands : HasApplied shape seats s)
    (low : c < length seats) where
  due-same : due_at s c ≡ due_of seats c
  due-same = due-is shape seats (turns_written shape seats) (newest shape seats) s stands c low

  none-same : refusal_by s.shape (due_at s c) bytes ≡ None → refusal_by shape (due_of seats c) bytes ≡ None
  none-same none =
      sym (ap₂ (λ (sh : Shape) (due : Due). refusal_by sh due bytes) stands.same due-same) ∙ none

  step-write : (w : WriteFrame) → IsAccepted s.shape (due_at s c) bytes true →
      IsTakenWrite s.shape (due_at s c) bytes w → step shape seats c bytes
      ≡ told_step shape seats (with_write seats w.client w)
  step-write w taken is =
      step-none shape seats c bytes (none-same taken.none)
      ∙ ap (told_step shape seats)
      (frame-write shape seats c bytes w taken.begins (is.spelled ∙ ap (λ sh. write_in sh (drop 2 bytes)) stands.same)
      ∙ ap (λ k. with_write seats k w) (sym is.is_next.of))

  step-read : (r : ReadFrame) → IsAccepted s.shape (due_at s c) bytes false →
      IsTakenRead s.shape (due_at s c) bytes r → step shape seats c bytes
      ≡ told_step shape seats (with_read seats r.client r)
  step-read r taken is =
      step-none shape seats c bytes (none-same taken.none)
      ∙ ap (told_step shape seats)
      (frame-read shape seats c bytes r taken.begins (is.spelled ∙ ap (λ sh. read_in sh bytes) stands.same)
      ∙ ap (λ k. with_read seats k r) (sym is.is_next.of))

  step-refused : (cause : Refusal) → refusal_by s.shape (due_at s c) bytes ≡ Some cause →
      step shape seats c bytes ≡ refused_step seats c cause
  unfolding step
  step-refused cause refused =
      ap (step_by shape seats c bytes)
      (sym (ap₂ (λ (sh : Shape) (due : Due). refusal_by sh due bytes) stands.same due-same) ∙ refused)

-- What is checked against what a server has due.
module _ (shape : Shape) (seats : List Seat) (s : Server) (c : ℕ) (bytes : List ℕ) (due : Due)
    (stands : HasApplied shape seats s) (is_due : due ≡ due_at s c) (client : c < s.shape.clients) where
  low : c < length seats
  low = omega (arith, client, stands.are.counted, ap (λ (sh : Shape). sh.clients) stands.same)

  pub checked_write-step : (w : WriteFrame) → IsChecked s.shape due bytes (Write w) →
      step shape seats c bytes ≡ told_step shape seats (with_write seats w.client w)
  checked_write-step w checked =
      let own = subst (λ (d : Due). IsChecked s.shape d bytes (Write w)) is_due checked in
      step-write shape seats s c bytes stands low w own.0 own.1

  pub checked_read-step : (r : ReadFrame) → IsChecked s.shape due bytes (Read r) →
      step shape seats c bytes ≡ told_step shape seats (with_read seats r.client r)
  checked_read-step r checked =
      let own = subst (λ (d : Due). IsChecked s.shape d bytes (Read r)) is_due checked in
      step-read shape seats s c bytes stands low r own.0 own.1

  pub checked_refused-step : (cause : Refusal) → IsChecked s.shape due bytes (Refused cause) →
      step shape seats c bytes ≡ refused_step seats c cause
  checked_refused-step cause checked =
      step-refused shape seats s c bytes stands low cause
      (subst (λ (d : Due). IsChecked s.shape d bytes (Refused cause)) is_due checked)
