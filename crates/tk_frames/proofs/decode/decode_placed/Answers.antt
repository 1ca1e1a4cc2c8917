use Rattle.std.proofs.Common.{rules, get_or, sym, subst, ◌∙◌, ◌≡◌, arith}
use Rattle.tk_frames.specs.Ranges.{IsPlaced}
use Rattle.tk_frames.specs.Spelling.{placed_frame}
use Rattle.tk_frames.proofs.PlacedFrames.{mark_found, record_found, record-is, record_never_refused}
use Rattle.tk_frames.proofs.decode.decode_placed.Goals as goal

pub returns-in_err-check_record-in-5-clause-only : goal.returns-in_err-check_record-in-5-clause-only
returns-in_err-check_record-in-5-clause-only c = λ p fits e.
    let five : get_or c.args.bytes.now 0 0 ≡ 5 = search rules in
    absurd (record_never_refused c.args.shape.now c.args.bytes.now p c.in_err-check_record-in-5.field-0.0 five fits e c.in_err-check_record-in-5.ensures)

pub returns-in_ok-check_mark-in-4-clause-found : goal.returns-in_ok-check_mark-in-4-clause-found
returns-in_ok-check_mark-in-4-clause-found c =
    subst (λ p. IsPlaced c.args.shape.now p × (c.args.bytes.now ≡ placed_frame p)) (sym c.mark_of.ensures)
    (mark_found c.args.shape.now c.args.bytes.now (λ i. omega (arith, c.type_inv.bytes i)) (sym c.in_ok-check_mark-in-4.ensures))

pub returns-in_ok-record_of-in-5-clause-found : goal.returns-in_ok-record_of-in-5-clause-found
returns-in_ok-record_of-in-5-clause-found c =
    subst (λ p. IsPlaced c.args.shape.now p × (c.args.bytes.now ≡ placed_frame p)) (sym c.in_ok-record_of-in-5.ensures)
    (record_found c.args.shape.now c.args.bytes.now (λ i. omega (arith, c.type_inv.bytes i)) (sym c.in_ok-check_record-in-5.ensures))

pub returns-in_ok-record_of-in-5-clause-only : goal.returns-in_ok-record_of-in-5-clause-only
returns-in_ok-record_of-in-5-clause-only c = λ p fits e.
    let five : get_or c.args.bytes.now 0 0 ≡ 5 = search rules in
    c.in_ok-record_of-in-5.ensures ∙ record-is c.args.shape.now c.args.bytes.now p five fits e
