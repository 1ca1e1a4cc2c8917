use Rattle.std.proofs.Common.{[], ◌∷◌, ◌++◌, drop, sym, ap, ◌∙◌}
use Rattle.std.proofs.lemmas.List.{take_rest}
use Rattle.tk_frames.specs.Faults.{first_fault, head_checks, position_check, write_field_checks}
use Rattle.tk_frames.proofs.Checking.{first_fault-after}
use Rattle.tk_frames.proofs.check.check_record.Goals as goal

pub returns : goal.returns
returns c =
    let shape = c.args.shape.now in
    let bytes = c.args.bytes.now in
    let position = position_check shape bytes in
    let fields = write_field_checks shape (drop 10 bytes) in
    c.check_write_fields.ensures
    ∙ ap (λ rest. first_fault (write_field_checks shape rest)) (take_rest bytes 10)
    ∙ sym (first_fault-after (position ∷ []) fields c.in_ok-check_position.ensures)
    ∙ sym (first_fault-after (head_checks c.record_len.result 5 bytes) (position ∷ fields) c.in_ok-check_head.ensures)
    ∙ ap (λ want. first_fault (head_checks want 5 bytes ++ position ∷ fields)) c.record_len.ensures
