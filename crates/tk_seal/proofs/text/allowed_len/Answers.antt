-- The front ends at a byte that is not printable, or before bytes that are not UTF-8.
use Rattle.std.proofs.Common.{sym, ◌∙◌}
use Rattle.tk_seal.proofs.Fronts.{allowed_whole, up_to_control, up_to_fault}
use Rattle.tk_seal.proofs.text.allowed_len.Goals as goal

pub returns-in-Ok : goal.returns-in-Ok
returns-in-Ok c =
    let printable = c.printable_len-printable.ensures in
    let utf8 = c.in-Ok.ensures.cases.1 in
    up_to_control c.args.text.now _ printable
    (λ all. absurd (cc (sym c.requires ∙ allowed_whole c.args.text.now _ printable all utf8))) utf8

pub returns-in-Err : goal.returns-in-Err
returns-in-Err c =
    rw c.valid_up_to.ensures
    (up_to_fault c.args.text.now _ _ c.printable_len-printable.ensures c.in-Err.ensures.cases.1)
