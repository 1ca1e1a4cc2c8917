-- What refuses the input, and what it is answered with.
use Rattle.std.proofs.Common.{◌≡◌, ◌∙◌, ◌++◌, ap, sym, subst, ℕ, List, length}
use Rattle.std.specs.Prelude.{Err}
use Rattle.tk_words.specs.Lifting.{lifted_tape}
use Rattle.tk_script.specs.Printing.{printed, printed_tape}
use Rattle.tk_script.specs.declared.form.Form.TheVariants as form
use Rattle.tk_cli.specs.declared.request.Request.TheVariants.{Lift}
use Rattle.tk_cli.specs.declared.status.Status.{Status}
use Rattle.tk_cli.specs.Errors.{book_status, lift_status}
use Rattle.tk_cli.specs.Inputs.{Refuses}
use Rattle.tk_cli.proofs.ErrorLaws.{err_then}
use Rattle.tk_cli.proofs.InputLaws.{book-refuses}
use Rattle.tk_cli.proofs.HidingLaws.{drawn-tape}
use Rattle.tk_cli.proofs.LiftLaws.{kept-whole, lift-refuses, drawn-answer}
use Rattle.tk_cli.proofs.lift_word.drawn_text.Goals as goal

pub tape_in-requires : goal.tape_in-requires
tape_in-requires c = drawn-tape form.Run c.requires.spelled.bytes c.args.input c.requires.spelled.spelled c.requires.drawn

pub lift_tape-requires : goal.lift_tape-requires
lift_tape-requires c =
    let input = c.args.input in
    ap length c.in_ok-tape.ensures.kept
    ∙ kept-whole input.first.shape input.tape
    (drawn-tape form.Run c.requires.spelled.bytes input c.requires.spelled.spelled c.requires.drawn)
    c.in_ok-tape.ensures.whole

pub returns-in_err-tape-clause-refused : goal.returns-in_err-tape-clause-refused
returns-in_err-tape-clause-refused c =
    let input = c.args.input in
    let e = c.in_err-tape.field-0.0 in
    err_then (λ (s : Status). s ≡ book_status e) (Refuses Lift input) c.from_residual.result
    c.from_residual.ensures.1 (λ s is. subst (Refuses Lift input) (sym is) (book-refuses e Lift input
    (λ want got tells. c.in_err-tape.ensures.other want got (ap Err tells))))

pub returns-in_err-lifted-clause-refused : goal.returns-in_err-lifted-clause-refused
returns-in_err-lifted-clause-refused c =
    let input = c.args.input in
    let e = c.in_err-lifted.field-0.0 in
    err_then (λ (s : Status). s ≡ lift_status e) (Refuses Lift input) c.from_residual-in_err-lifted.result
    c.from_residual-in_err-lifted.ensures.1 (λ s is. subst (Refuses Lift input) (sym is)
    (lift-refuses e input
    (drawn-tape form.Run c.requires.spelled.bytes input c.requires.spelled.spelled c.requires.drawn)
    c.in_ok-tape.ensures.whole (λ want tells. (c.in_err-lifted.ensures.wide want).0 (ap Err tells))))

pub returns-clause-answer : goal.returns-clause-answer
returns-clause-answer c =
    let input = c.args.input in
    let T = c.in_ok-script.script in
    drawn-answer input T _ c.requires.drawn
    (drawn-tape form.Run c.requires.spelled.bytes input c.requires.spelled.spelled c.requires.drawn)
    c.in_ok-tape.ensures.whole c.in_ok-lifted.ensures.fits c.in_ok-script.ensures
    (c.in_ok-print_tape.ensures.ok
    ∙ ap (λ (xs : List ℕ). xs ++ printed_tape c.in_ok-lifted.lifted)
    (c.in_ok-print.ensures.ok ∙ ap (λ (xs : List ℕ). xs ++ printed T) c.new-text.ensures.items)
    ∙ ap (λ (u : List ℕ). printed T ++ printed_tape u)
    (c.in_ok-lifted.ensures.lifted ∙ ap (lifted_tape input.first.shape) c.in_ok-tape.ensures.kept))
