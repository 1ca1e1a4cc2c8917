-- Frames: what is read is spelled so and in range where no check fails, and what is in range is read from its spelling.
use Rattle.std.proofs.Common.{◌≡◌, ℕ, List, ◌∷◌, ◌++◌, length, drop, Some, None, refl, sym, ap, subst, ◌∙◌, arith}
use Rattle.std.proofs.lemmas.List.{drop_at, take_at, length-append, length-drop, length-take, take-append-drop}
use Rattle.std.proofs.lemmas.Option.{none-some}
use Rattle.tk_shape.specs.declared.shape.Shape.{Shape}
use Rattle.tk_shape.specs.Lengths.{width, write_len, reply_len}
use Rattle.tk_frames.specs.declared.write_frame.WriteFrame.{WriteFrame}
use Rattle.tk_frames.specs.declared.reply_frame.ReplyFrame.{ReplyFrame}
use Rattle.tk_frames.specs.declared.fault.FrameError.{FrameError}
use Rattle.tk_frames.specs.Spelling.{write_fields, write_frame, asked_frame, reply_frame}
use Rattle.tk_frames.specs.Ranges.{IsWrite, IsReply}
use Rattle.tk_frames.specs.Fields.{number_at, write_in, reply_in}
use Rattle.tk_frames.specs.Faults.{first_fault, write_field_checks, write_checks, reply_checks}
use Rattle.tk_frames.proofs.Asked.{asker-again, asked_stands, asked_passes}
use Rattle.tk_frames.proofs.BigEndian.{IsBytes, IsBytes-drop}
use Rattle.tk_frames.proofs.Heads.{head-join, head_stands, head_passes}
use Rattle.tk_frames.proofs.WriteFields.{length-write_fields, fields-join, fields-again, fields_in_range, fields_pass}

-- ---- writes

pub length-write_frame : (shape : Shape) (w : WriteFrame) → IsWrite shape w → length (write_frame w) ≡ write_len shape
length-write_frame shape w fits = omega (arith, length-write_fields w, fits.hits_counted, fits.block_len)

pub write-again : (shape : Shape) (w : WriteFrame) → IsWrite shape w → write_in shape (drop 2 (write_frame w)) ≡ w
write-again shape w fits = fields-again shape w fits

pub write_passes : (shape : Shape) (w : WriteFrame) → IsWrite shape w → first_fault (write_checks shape (write_frame w)) ≡ None
write_passes shape w fits =
    let again : IsWrite shape (write_in shape (write_fields w)) = subst (IsWrite shape) (sym (fields-again shape w fits)) fits in
    head_passes (write_len shape) 1 (write_frame w) (write_field_checks shape (write_fields w))
    (record { long = length-write_frame shape w fits; first = refl; second = refl })
    (fields_pass shape (write_fields w) again)

pub write_never_refused : (shape : Shape) (bytes : List ℕ) (w : WriteFrame) (f : FrameError) → IsWrite shape w → bytes ≡ write_frame w →
    Some f ≡ first_fault (write_checks shape bytes) → ⊥
write_never_refused shape bytes w f fits e failed =
    none-some f (sym (failed ∙ ap (λ xs. first_fault (write_checks shape xs)) e ∙ write_passes shape w fits))

pub write_found : (shape : Shape) (bytes : List ℕ) → IsBytes bytes → first_fault (write_checks shape bytes) ≡ None →
    IsWrite shape (write_in shape (drop 2 bytes)) × (bytes ≡ write_frame (write_in shape (drop 2 bytes)))
write_found shape bytes fits e =
    let head = head_stands (write_len shape) 1 bytes (write_field_checks shape (drop 2 bytes)) e in
    let long = head.0.long in
    let fields = fields-join shape (drop 2 bytes) (IsBytes-drop 2 bytes fits) (omega (arith, length-drop 2 bytes)) in (
      fields_in_range shape (drop 2 bytes) (omega (arith, length-drop 2 bytes)) head.1,
      head-join 1 bytes (omega arith) head.0.first head.0.second ∙ ap (λ xs. 1 ∷ 1 ∷ xs) (sym fields),
    )

-- ---- replies

pub length-reply_frame : (shape : Shape) (r : ReplyFrame) → IsReply shape r → length (reply_frame r) ≡ reply_len shape
length-reply_frame shape r fits = omega (arith, length-append r.first r.second, fits.first_len, fits.second_len)

pub reply-again : (shape : Shape) (r : ReplyFrame) → IsReply shape r → reply_in shape (reply_frame r) ≡ r
reply-again shape r fits =
    let asker = asker-again shape 3 r.client r.turn r.epoch (r.first ++ r.second) (record { client_fits = fits.client; turn_fits = fits.turn; epoch_fits = fits.epoch }) in
    let first = take_at r.first r.second (width shape) fits.first_len in
    let second = drop_at r.first r.second (width shape) fits.first_len in
    λ i. record { client = asker.client_again i; turn = asker.turn_again i; epoch = asker.epoch_again i; first = first i; second = second i }

pub reply_passes : (shape : Shape) (r : ReplyFrame) → IsReply shape r → first_fault (reply_checks shape (reply_frame r)) ≡ None
reply_passes shape r fits =
    asked_passes shape (reply_len shape) 3 r.client r.turn r.epoch (r.first ++ r.second)
    (record { client_fits = fits.client; turn_fits = fits.turn; epoch_fits = fits.epoch })
    (omega (arith, length-append r.first r.second, fits.first_len, fits.second_len))

pub reply_found : (shape : Shape) (bytes : List ℕ) → IsBytes bytes → first_fault (reply_checks shape bytes) ≡ None →
    IsReply shape (reply_in shape bytes) × (bytes ≡ reply_frame (reply_in shape bytes))
reply_found shape bytes fits e =
    let stands = asked_stands shape (reply_len shape) 3 bytes fits (omega arith) e in
    let long = stands.long in
    let rest = drop 14 bytes in (
      record {
        client = stands.asker.client_fits;
        turn = stands.asker.turn_fits;
        epoch = stands.asker.epoch_fits;
        first_len = omega (arith, length-take (width shape) rest, length-drop 14 bytes, long);
        second_len = omega (arith, length-drop (width shape) rest, length-drop 14 bytes, long);
      },
      stands.spelled
          ∙ ap (asked_frame 3 (number_at 2 bytes) (number_at 6 bytes) (number_at 10 bytes))
          (sym (take-append-drop (width shape) rest)),
    )
