-- The first field is the number's decimal.
use Rattle.std.proofs.Common.{◌≡◌, ◌++◌, decimal}
use Rattle.tk_script.proofs.FieldLaws.{field_is}
use Rattle.tk_script.proofs.fields.next_number.Goals as goal

pub returns-in_err-number-clause-only : goal.returns-in_err-number-clause-only
returns-in_err-number-clause-only c n rest small end e =
    let behind = c.in_ok-text.ensures.only (decimal n ++ rest) e in
    let field = field_is c.in_ok-text.text.now c.next_field.result.0.now c.next_field.result.1.now n
    rest c.next_field.ensures.whole
    c.next_field.ensures.field c.next_field.ensures.end small end behind
    in
    absurd (cc (c.in_err-number.ensures.only n small field.0))

pub returns-clause-only : goal.returns-clause-only
returns-clause-only c n rest small end e =
    let behind = c.in_ok-text.ensures.only (decimal n ++ rest) e in
    let field = field_is c.in_ok-text.text.now c.next_field.result.0.now c.next_field.result.1.now n
    rest c.next_field.ensures.whole
    c.next_field.ensures.field c.next_field.ensures.end small end behind
    in
    let number : c.in_ok-number.number ≡ n = cc (c.in_ok-number.ensures.only n small field.0) in
    (number, field.1)
