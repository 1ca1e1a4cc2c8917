-- What refuses the input, and what it is answered with.
use Rattle.std.proofs.Common.{◌≡◌, sym, subst}
use Rattle.tk_cli.specs.declared.request.Request.TheVariants.{Wrong}
use Rattle.tk_cli.specs.declared.status.Status.{Status}
use Rattle.tk_cli.specs.Inputs.{Refuses}
use Rattle.tk_cli.proofs.ErrorLaws.{err_then}
use Rattle.tk_cli.proofs.HidingLaws.{wrong-two, wrong-replies, wrong-answers, with-parts}
use Rattle.tk_cli.proofs.wrong_word.under_replies.Goals as goal

pub hiding_in-requires : goal.hiding_in-requires
hiding_in-requires c = wrong-two c.requires.bytes c.args.input c.requires.spelled

pub returns-in_err-first-clause-refused : goal.returns-in_err-first-clause-refused
returns-in_err-first-clause-refused c =
    let r = Wrong c.args.hidden in
    let e = c.in_err-first.field-0.0 in
    err_then (λ (s : Status). s ≡ e) (Refuses r c.args.input) c.from_residual.result
    c.from_residual.ensures.1
    (λ s is. subst (Refuses r c.args.input) (sym is) c.in_err-first.ensures.refused)

pub replies_in-requires : goal.replies_in-requires
replies_in-requires c =
    with-parts c.args.hidden c.args.input _ c.in_ok-first.ensures.parts
    (wrong-replies c.requires.bytes c.args.input c.requires.spelled)

pub returns-clause-answer : goal.returns-clause-answer
returns-clause-answer c =
    wrong-answers c.args.hidden c.args.input _ c.in_ok-first.ensures.parts c.in-Ok.tape
    c.in_ok-tape_text.ensures _ c.in_ok-replies.ensures.sums c.in-Ok.ensures.mirrored
