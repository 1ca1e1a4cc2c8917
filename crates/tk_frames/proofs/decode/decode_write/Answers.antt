use Rattle.std.proofs.Common.{drop, sym, ap, subst, ◌∙◌, ◌≡◌, arith}
use Rattle.std.proofs.lemmas.List.{take_rest}
use Rattle.tk_frames.specs.Ranges.{IsWrite}
use Rattle.tk_frames.specs.Spelling.{write_frame}
use Rattle.tk_frames.specs.Fields.{write_in}
use Rattle.tk_frames.proofs.Frames.{write_found, write-again, write_never_refused}
use Rattle.tk_frames.proofs.decode.decode_write.Goals as goal

pub returns-clause-found : goal.returns-clause-found
returns-clause-found c =
    subst (λ r. IsWrite c.args.shape.now r × (c.args.bytes.now ≡ write_frame r)) (sym (c.in_ok-write_of.ensures ∙ ap (write_in c.args.shape.now) (take_rest c.args.bytes.now 2)))
    (write_found c.args.shape.now c.args.bytes.now (λ i. omega (arith, c.type_inv.bytes i)) (sym c.in_ok-check_write.ensures))

pub returns-clause-only : goal.returns-clause-only
returns-clause-only c = λ r fits e.
    (c.in_ok-write_of.ensures ∙ ap (write_in c.args.shape.now) (take_rest c.args.bytes.now 2)) ∙ ap (λ bytes. write_in c.args.shape.now (drop 2 bytes)) e ∙ write-again c.args.shape.now r fits

pub returns-in_err-check_write-clause-only : goal.returns-in_err-check_write-clause-only
returns-in_err-check_write-clause-only c = λ w fits e.
    absurd (write_never_refused c.args.shape.now c.args.bytes.now w c.in_err-check_write.field-0.0 fits e c.in_err-check_write.ensures)
