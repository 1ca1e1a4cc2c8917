-- A tape may refuse the input; else its words are those of the book.
use Rattle.std.proofs.Common.{◌≡◌, ◌≢◌, refl, ap, sym, subst}
use Rattle.std.specs.Prelude.{Err}
use Rattle.tk_cli.specs.declared.request.Request.{Request}
use Rattle.tk_cli.specs.declared.status.Status.{Status}
use Rattle.tk_cli.specs.Errors.{book_status}
use Rattle.tk_cli.specs.Limits.{input_limit}
use Rattle.tk_cli.specs.Inputs.{Refuses, Stops, form_of}
use Rattle.tk_cli.proofs.ErrorLaws.{err_then}
use Rattle.tk_cli.specs.declared.status.Status.TheVariants as status
use Rattle.tk_script.proofs.Offers.{spelled-HasTape, spelled-IsWholeTape}
use Rattle.tk_cli.proofs.InputLaws.{book-refuses, book-short, err-short, run-stops, not_over, ok_long}
use Rattle.tk_cli.proofs.input.ready.Goals as goal

pub book-requires : goal.book-requires
book-requires g c =
    let read = c.in_ok-first.ensures.read in
    spelled-HasTape c.args.form read.bytes c.in_ok-first.field-0 read.spelled

pub returns-in_err-book-clause-taken : goal.returns-in_err-book-clause-taken
returns-in_err-book-clause-taken g c =
    let left = g.S.Source.left c.args.source.now in
    let left' = g.S.Source.left c.input_from.new.source in
    let taken = c.in_ok-first.ensures.taken in
    let e = c.in_err-book.field-0.0 in
    let res = c.from_residual-in_err-book.result in (
      taken.0,
      not_over input_limit left left' taken.0 taken.1 (ok_long c.in_ok-first.field-0)
          (err-short res (err_then (λ (s : Status). s ≡ book_status e)
          (λ (s : Status). s ≢ status.TooLong) res c.from_residual-in_err-book.ensures.1
          (λ s is. book-short e s is))),
    )

pub returns-in_err-book-clause-stopped : goal.returns-in_err-book-clause-stopped
returns-in_err-book-clause-stopped g c =
    let input = c.in_ok-first.field-0 in
    let left = g.S.Source.left c.args.source.now in
    let left' = g.S.Source.left c.input_from.new.source in
    let f = g.S.Source.faults c.args.source.now in
    let f' = g.S.Source.faults c.input_from.new.source in
    let e = c.in_err-book.field-0.0 in
    err_then (λ (s : Status). s ≡ book_status e)
    (λ (s : Status). (r : Request) → form_of r ≡ c.args.form → Stops r s left left' f f')
    c.from_residual-in_err-book.result c.from_residual-in_err-book.ensures.1
    (λ s is r reads. run-stops c.args.form r s left left' f f' input c.in_ok-first.ensures.read reads
    (subst (Refuses r input) (sym is) (book-refuses e r input
    (λ want got tells. c.in_err-book.ensures.other want got (ap Err tells)))))

pub returns-clause-ready : goal.returns-clause-ready
returns-clause-ready g c =
    let input = c.in_ok-first.field-0 in
    let read = c.in_ok-first.ensures.read in
    let got = c.in_ok-book.ensures in
    record {
      input = input;
      read = read;
      whole = spelled-IsWholeTape c.args.form read.bytes input read.spelled got.whole;
      of_input = refl;
      shape = got.shape;
      words = got.words;
    }

pub returns-clause-taken : goal.returns-clause-taken
returns-clause-taken g c =
    let left = g.S.Source.left c.args.source.now in
    let left' = g.S.Source.left c.input_from.new.source in
    let taken = c.in_ok-first.ensures.taken in
    let input = c.in_ok-first.field-0 in (
      taken.0,
      not_over input_limit left left' taken.0 taken.1 (ok_long input)
          (ok_long (input.first, c.in_ok-book.book)),
    )
