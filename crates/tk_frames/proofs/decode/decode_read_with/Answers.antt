use Rattle.std.proofs.Common.{sym, ap, subst, ◌∙◌, ◌≡◌, arith}
use Rattle.tk_frames.specs.Ranges.{IsRead}
use Rattle.tk_frames.specs.Spelling.{read_frame}
use Rattle.tk_frames.specs.Fields.{read_in}
use Rattle.tk_frames.proofs.ReadLaws.{read_found, read-again, read_never_refused, read_stands}
use Rattle.tk_frames.proofs.decode.decode_read_with.Goals as goal

pub returns-in_err-check_read-clause-only : goal.returns-in_err-check_read-clause-only
returns-in_err-check_read-clause-only c = λ r fits e.
    absurd (read_never_refused c.args.shape.now c.args.bytes.now r c.in_err-check_read.field-0.0 fits e c.in_err-check_read.ensures)

pub read_of-requires : goal.read_of-requires
read_of-requires c = (read_stands c.args.shape.now c.args.bytes.now (sym c.in_ok-check_read.ensures)).head.long

pub returns-clause-found : goal.returns-clause-found
returns-clause-found c =
    subst (λ r. IsRead c.args.shape.now r × (c.args.bytes.now ≡ read_frame r)) (sym c.in_ok-read_of.ensures)
    (read_found c.args.shape.now c.args.bytes.now (λ i. omega (arith, c.type_inv.bytes i)) (sym c.in_ok-check_read.ensures))

pub returns-clause-only : goal.returns-clause-only
returns-clause-only c = λ r fits e.
    c.in_ok-read_of.ensures ∙ ap (read_in c.args.shape.now) e ∙ read-again c.args.shape.now r fits
