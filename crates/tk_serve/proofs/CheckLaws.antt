-- A frame that is checked, and what is due.
use Rattle.std.proofs.Common.{◌≡◌, ℕ, refl, ap, sym, ◌∙◌, subst, true, false, Bool, cond, List, drop, Option, Some}
use Rattle.std.proofs.Common.{None}
use Rattle.std.specs.Prelude.{◌==◌, slice_index}
use Rattle.std.proofs.lemmas.Bool.{eqb-true}
use Rattle.tk_shape.specs.declared.shape.Shape.{Shape}
use Rattle.tk_schedule.specs.Schedule.{phases_over}
use Rattle.tk_frames.specs.declared.write_frame.WriteFrame.{WriteFrame}
use Rattle.tk_frames.specs.declared.read_frame.ReadFrame.{ReadFrame}
use Rattle.tk_frames.specs.declared.fault.FrameError.{FrameError}
use Rattle.tk_frames.specs.Faults.{first_fault, write_checks, read_checks, IsRefusal}
use Rattle.tk_frames.specs.Fields.{write_in, read_in}
use Rattle.tk_frames.specs.Spelling.{write_frame, read_frame}
use Rattle.tk_frames.specs.Ranges.{IsWrite, IsRead}
use Rattle.tk_frames.proofs.Offers.{read-again}
use Rattle.tk_serve.specs.declared.due.Due.{Due}
use Rattle.tk_serve.specs.declared.refusal.Refusal.{Refusal}
use Rattle.tk_serve.specs.declared.refusal.Refusal.TheVariants as refusal
use Rattle.tk_serve.specs.declared.check.Checked.{Checked}
use Rattle.tk_serve.specs.declared.check.Checked.TheVariants.{Write, Read, Refused}
use Rattle.tk_serve.specs.Refusals.{of_fault, after_fault, unless, write_misplaced, read_misplaced, write_refusal}
use Rattle.tk_serve.specs.Refusals.{read_refusal, refusal_by, is_read_kind}
use Rattle.tk_serve.specs.Checked.{IsTakenWrite, IsTakenRead, IsWriteChecked, IsReadChecked, IsChecked, IsRefusedForFrame}
use Rattle.tk_serve.proofs.WriteFields.{write-read}

after-refused : (o : Option FrameError) (e : FrameError) (behind : Option Refusal) (cause : Refusal) →
    IsRefusal o e → of_fault e ≡ Some cause → after_fault o behind ≡ Some cause
after-refused None e behind cause memory is = absurd (cc (sym (ap of_fault memory) ∙ is))
after-refused (Some f) e behind cause same is = ap of_fault (sym same) ∙ is

pub after-none : (o : Option FrameError) (behind : Option Refusal) → o ≡ None → after_fault o behind ≡ behind
after-none o behind none = ap (λ p. after_fault p behind) none

-- where nothing is refused a test holds, and what comes behind refuses nothing
passes : (b : Bool) (cause : Refusal) (behind : Option Refusal) → unless b cause behind ≡ None →
    (b ≡ true) × (behind ≡ None)
passes true cause behind none = (refl, none)
passes false cause behind none = absurd (cc none)

-- ---- writes

pub write-refused : (shape : Shape) (due : Due) (bytes : List ℕ) (e : FrameError) (x : Checked) →
    IsRefusal (first_fault (write_checks shape bytes)) e → IsRefusedForFrame e x → IsWriteChecked shape due bytes x
unfolding write_refusal
write-refused shape due bytes e x fault for =
    subst (IsWriteChecked shape due bytes) (sym for.refused)
    (after-refused (first_fault (write_checks shape bytes)) e (write_misplaced due (write_in shape (drop 2 bytes)))
    for.cause fault for.is)

write-spelled : (shape : Shape) (bytes : List ℕ) (w : WriteFrame) → IsWrite shape w → bytes ≡ write_frame w →
    w ≡ write_in shape (drop 2 bytes)
write-spelled shape bytes w fits spelled =
    write-read shape w fits ∙ ap (λ xs. write_in shape (drop 2 xs)) (sym spelled)

pub write-placed : (shape : Shape) (due : Due) (bytes : List ℕ) (w : WriteFrame) (o : Option Refusal) →
    IsWrite shape w × (bytes ≡ write_frame w) → first_fault (write_checks shape bytes) ≡ None →
    o ≡ write_misplaced due w → write_refusal shape due bytes ≡ o
unfolding write_refusal
write-placed shape due bytes w o found none misplaced =
    after-none (first_fault (write_checks shape bytes)) (write_misplaced due (write_in shape (drop 2 bytes))) none
    ∙ ap (write_misplaced due) (sym (write-spelled shape bytes w found.0 found.1)) ∙ sym misplaced

pub write-taken : (shape : Shape) (due : Due) (bytes : List ℕ) (w : WriteFrame) →
    IsWrite shape w × (bytes ≡ write_frame w) → None ≡ write_misplaced due w → IsTakenWrite shape due bytes w
write-taken shape due bytes w found none =
    let client = passes (w.client == due.client) refusal.OtherClient
    (unless (w.turn == due.write) refusal.OtherTurn None) (sym none)
    in
    let turn = passes (w.turn == due.write) refusal.OtherTurn None client.1 in
    record {
      spelled = write-spelled shape bytes w found.0 found.1;
      is_next =
          record { in_range = found.0; of = eqb-true _ _ client.0; at = eqb-true _ _ turn.0 };
    }

-- ---- reads

pub read-refused : (shape : Shape) (due : Due) (bytes : List ℕ) (e : FrameError) (x : Checked) →
    IsRefusal (first_fault (read_checks shape bytes)) e → IsRefusedForFrame e x → IsReadChecked shape due bytes x
unfolding read_refusal
read-refused shape due bytes e x fault for =
    subst (IsReadChecked shape due bytes) (sym for.refused)
    (after-refused (first_fault (read_checks shape bytes)) e (read_misplaced shape due (read_in shape bytes))
    for.cause fault for.is)

read-spelled : (shape : Shape) (bytes : List ℕ) (r : ReadFrame) → IsRead shape r → bytes ≡ read_frame r →
    r ≡ read_in shape bytes
read-spelled shape bytes r fits spelled =
    sym (ap (read_in shape) spelled ∙ read-again shape r fits)

pub read-placed_by : (shape : Shape) (due : Due) (bytes : List ℕ) (r : ReadFrame) (o : Option Refusal) →
    IsRead shape r × (bytes ≡ read_frame r) → first_fault (read_checks shape bytes) ≡ None →
    o ≡ read_misplaced shape due r → read_refusal shape due bytes ≡ o
unfolding read_refusal
read-placed_by shape due bytes r o found none misplaced =
    after-none (first_fault (read_checks shape bytes)) (read_misplaced shape due (read_in shape bytes)) none
    ∙ ap (read_misplaced shape due) (sym (read-spelled shape bytes r found.0 found.1)) ∙ sym misplaced

pub read-taken : (shape : Shape) (due : Due) (bytes : List ℕ) (r : ReadFrame) →
    IsRead shape r × (bytes ≡ read_frame r) → None ≡ read_misplaced shape due r → IsTakenRead shape due bytes r
read-taken shape due bytes r found none =
    let client = passes (r.client == due.client) refusal.OtherClient
    (unless (r.turn == due.read) refusal.OtherTurn
    (unless (r.epoch == phases_over shape r.turn) refusal.OtherEpoch None)) (sym none)
    in
    let turn = passes (r.turn == due.read) refusal.OtherTurn
    (unless (r.epoch == phases_over shape r.turn) refusal.OtherEpoch None) client.1
    in
    let epoch = passes (r.epoch == phases_over shape r.turn) refusal.OtherEpoch None turn.1 in
    let at = eqb-true _ _ turn.0 in
    record {
      spelled = read-spelled shape bytes r found.0 found.1;
      is_next =
          record {
            in_range = found.0;
            of = eqb-true _ _ client.0;
            at = at;
            over = eqb-true _ _ epoch.0 ∙ ap (phases_over shape) at;
          };
    }

-- ---- any frame

pub begins-write : (shape : Shape) (due : Due) (bytes : List ℕ) → (slice_index bytes 0 == 1) ≡ true →
    refusal_by shape due bytes ≡ write_refusal shape due bytes
unfolding refusal_by
begins-write shape due bytes begins =
    ap (λ b. cond b (write_refusal shape due bytes)
    (cond (is_read_kind shape (slice_index bytes 0)) (read_refusal shape due bytes) (Some refusal.Kind))) begins

pub begins-read : (shape : Shape) (due : Due) (bytes : List ℕ) → (slice_index bytes 0 == 1) ≡ false →
    is_read_kind shape (slice_index bytes 0) ≡ true → refusal_by shape due bytes ≡ read_refusal shape due bytes
unfolding refusal_by
begins-read shape due bytes other begins =
    ap (λ b. cond b (write_refusal shape due bytes)
    (cond (is_read_kind shape (slice_index bytes 0)) (read_refusal shape due bytes) (Some refusal.Kind))) other
    ∙ ap (λ b. cond b (read_refusal shape due bytes) (Some refusal.Kind)) begins

pub begins-other : (shape : Shape) (due : Due) (bytes : List ℕ) → (slice_index bytes 0 == 1) ≡ false →
    is_read_kind shape (slice_index bytes 0) ≡ false → refusal_by shape due bytes ≡ Some refusal.Kind
unfolding refusal_by
begins-other shape due bytes other neither =
    ap (λ b. cond b (write_refusal shape due bytes)
    (cond (is_read_kind shape (slice_index bytes 0)) (read_refusal shape due bytes) (Some refusal.Kind))) other
    ∙ ap (λ b. cond b (read_refusal shape due bytes) (Some refusal.Kind)) neither

pub checked-write : (shape : Shape) (due : Due) (bytes : List ℕ) → (slice_index bytes 0 == 1) ≡ true →
    (x : Checked) → IsWriteChecked shape due bytes x → IsChecked shape due bytes x
checked-write shape due bytes begins (Write w) h =
    (record { none = begins-write shape due bytes begins ∙ h.0; begins = begins }, h.1)
checked-write shape due bytes begins (Read r) h = absurd h
checked-write shape due bytes begins (Refused cause) h = begins-write shape due bytes begins ∙ h

pub checked-read : (shape : Shape) (due : Due) (bytes : List ℕ) → (slice_index bytes 0 == 1) ≡ false →
    is_read_kind shape (slice_index bytes 0) ≡ true →
    (x : Checked) → IsReadChecked shape due bytes x → IsChecked shape due bytes x
checked-read shape due bytes other begins (Write w) h = absurd h
checked-read shape due bytes other begins (Read r) h =
    (record { none = begins-read shape due bytes other begins ∙ h.0; begins = other }, h.1)
checked-read shape due bytes other begins (Refused cause) h = begins-read shape due bytes other begins ∙ h
