-- A line that goes on with `fill` is that of a byte.
use Rattle.std.proofs.Common.{sym, subst}
use Rattle.std.specs.Prelude.{IfOk}
use Rattle.tk_script.specs.Pieces.{piece_bytes}
use Rattle.tk_script.specs.Reading.{IsRead}
use Rattle.tk_script.proofs.TapeLineLaws.{x_said, fill_behind, other_form}
use Rattle.tk_script.proofs.piece.piece_of.Goals as goal

pub returns-in-Some : goal.returns-in-Some
returns-in-Some c =
    subst (λ s. IfOk c.bytes_piece.result (λ r. IsRead piece_bytes r s))
    (sym (x_said c.args.line.now c.in-Some.digits.now c.in-Some.ensures.found))
    c.bytes_piece.ensures

pub returns-in_default-rest_behind : goal.returns-in_default-rest_behind
returns-in_default-rest_behind c =
    other_form c.args.line.now c.in_default.ensures.only c.in_default-rest_behind.ensures.only

pub returns : goal.returns
returns c =
    subst (λ s. IsRead piece_bytes c.fill_piece.result s)
    (sym (fill_behind c.args.line.now c.in-Some-rest_behind.rest.now
    c.in-Some-rest_behind.ensures.found))
    c.fill_piece.ensures
