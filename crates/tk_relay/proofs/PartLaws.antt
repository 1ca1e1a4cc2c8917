-- A part is read from its spelling, and bytes without a fault spell the part that is read from them.
use Rattle.std.proofs.Common.{◌≡◌, ℕ, ◌+◌, ◌*◌, List, drop, None, ap, sym, ◌∙◌, arith}
use Rattle.std.proofs.lemmas.List.{length-drop, take-append-drop, take_at, drop_at}
use Rattle.tk_shape.specs.declared.shape.Shape.{Shape}
use Rattle.tk_frames.specs.Fields.{number_at}
use Rattle.tk_frames.specs.Faults.{first_fault}
use Rattle.tk_frames.specs.Spelling.{asked_frame}
use Rattle.tk_frames.proofs.Offers.{IsBytes, AskerFits, asker-again, asked_stands}
use Rattle.tk_relay.specs.declared.part.Part.{Part}
use Rattle.tk_relay.specs.Halves.{halves_bytes}
use Rattle.tk_relay.specs.Parts.{halves_of, IsPart, frame_as, part_in, part_checks}
use Rattle.tk_relay.proofs.Cutting.{cut-sized}

pub part-names : (shape : Shape) (size : ℕ) (p : Part) → IsPart shape size p →
    AskerFits shape p.client p.turn p.epoch
part-names shape size p fits =
    record { client_fits = fits.client; turn_fits = fits.turn; epoch_fits = fits.epoch }

pub part_found : (shape : Shape) (size kind : ℕ) (bytes : List ℕ) → IsBytes bytes →
    first_fault (part_checks shape size kind bytes) ≡ None →
    IsPart shape size (part_in size bytes) × (bytes ≡ frame_as kind (part_in size bytes))
part_found shape size kind bytes fits none =
    let stands = asked_stands shape (14 + 2 * size) kind bytes fits (omega arith) none in
    let rest = drop 14 bytes in
    let long = stands.long in (
      record {
        client = stands.asker.client_fits;
        turn = stands.asker.turn_fits;
        epoch = stands.asker.epoch_fits;
        halves = cut-sized size rest (omega (arith, length-drop 14 bytes, long));
      },
      stands.spelled
          ∙ ap (asked_frame kind (number_at 2 bytes) (number_at 6 bytes) (number_at 10 bytes))
          (sym (take-append-drop size rest)),
    )

pub part-again : (shape : Shape) (size kind : ℕ) (p : Part) → IsPart shape size p →
    part_in size (frame_as kind p) ≡ p
part-again shape size kind p fits =
    let asker = asker-again shape kind p.client p.turn p.epoch (halves_bytes (halves_of p))
    (part-names shape size p fits)
    in
    let first = take_at p.first p.second size fits.halves.first in
    let second = drop_at p.first p.second size fits.halves.first in
    λ i. record {
      client = asker.client_again i;
      turn = asker.turn_again i;
      epoch = asker.epoch_again i;
      first = first i;
      second = second i;
    }
