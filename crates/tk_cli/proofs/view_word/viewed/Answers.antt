-- What refuses the input, and what it is answered with.
use Rattle.std.proofs.Common.{◌≡◌, ◌∙◌, ap, sym, subst, ℕ, Option, rules}
use Rattle.std.specs.Prelude.{IsSome, Err}
use Rattle.tk_script.specs.declared.form.Form.TheVariants as form
use Rattle.tk_words.specs.Words.{WordBook}
use Rattle.tk_script.proofs.Offers.{spelled-HasTape}
use Rattle.tk_report.specs.Exchange.{view}
use Rattle.tk_cli.specs.declared.request.Request.TheVariants.{View}
use Rattle.tk_cli.specs.declared.status.Status.{Status}
use Rattle.tk_cli.specs.Errors.{book_status, history_status}
use Rattle.tk_cli.specs.Handles.{hex_lines}
use Rattle.tk_cli.specs.Inputs.{Refuses, bad_history_line, history_refusal, server_refusal}
use Rattle.tk_cli.proofs.ErrorLaws.{err_then}
use Rattle.tk_cli.proofs.InputLaws.{book-accepts, book-refuses, history-refuses, server-refuses}
use Rattle.tk_cli.proofs.view_word.viewed.Goals as goal

pub book-requires : goal.book-requires
book-requires c =
    spelled-HasTape form.View c.requires.bytes c.args.input c.requires.spelled

pub history_in-requires : goal.history_in-requires
history_in-requires c = subst IsSome (sym c.requires.spelled.has_history) (search rules)

pub returns-in_err-book-clause-refused : goal.returns-in_err-book-clause-refused
returns-in_err-book-clause-refused c =
    let input = c.args.input in
    let r = View c.args.server in
    let e = c.in_err-book.field-0.0 in
    err_then (λ (s : Status). s ≡ book_status e) (Refuses r input) c.from_residual.result
    c.from_residual.ensures.1 (λ s is. subst (Refuses r input) (sym is) (book-refuses e r input
    (λ want got tells. c.in_err-book.ensures.other want got (ap Err tells))))

pub returns-in_err-history-clause-refused : goal.returns-in_err-history-clause-refused
returns-in_err-history-clause-refused c =
    let input = c.args.input in
    let S = input.first.shape in
    let r = View c.args.server in
    let e = c.in_err-history.field-0.0 in
    let behind = server_refusal c.args.server S.servers in
    err_then (λ (s : Status). s ≡ history_status e) (Refuses r input)
    c.from_residual-in_err-history.result c.from_residual-in_err-history.ensures.1
    (λ s is. subst (Refuses r input) (sym is) (history-refuses e (bad_history_line S input.history)
    r input behind c.in_err-history.ensures.bad
    (book-accepts form.View c.requires.bytes input
    (history_refusal (bad_history_line S input.history) behind) c.requires.spelled
    c.in_ok-book.ensures.whole)))

pub returns-in_err-server_in-clause-refused : goal.returns-in_err-server_in-clause-refused
returns-in_err-server_in-clause-refused c =
    let input = c.args.input in
    let S = input.first.shape in
    let r = View c.args.server in
    let e = c.in_err-server_in.field-0.0 in
    let behind = server_refusal c.args.server S.servers in
    err_then (λ (s : Status). s ≡ e) (Refuses r input) c.from_residual-in_err-server_in.result
    c.from_residual-in_err-server_in.ensures.1 (λ s is. subst (Refuses r input) (sym is)
    (server-refuses c.args.server S.servers e r input c.in_err-server_in.ensures.hidden
    (book-accepts form.View c.requires.bytes input
    (history_refusal (bad_history_line S input.history) behind) c.requires.spelled
    c.in_ok-book.ensures.whole
    ∙ ap (λ (b : Option ℕ). history_refusal b behind) c.in_ok-history.ensures.bad
    ∙ c.in_err-server_in.ensures.err)))

pub returns-clause-answer : goal.returns-clause-answer
returns-clause-answer c =
    let input = c.args.input in
    let S = input.first.shape in
    let behind = server_refusal c.args.server S.servers in
    record {
      history = c.in_ok-history.history;
      accepted = book-accepts form.View c.requires.bytes input
          (history_refusal (bad_history_line S input.history) behind) c.requires.spelled
          c.in_ok-book.ensures.whole
          ∙ ap (λ (b : Option ℕ). history_refusal b behind) c.in_ok-history.ensures.bad
          ∙ c.in_ok-server_in.ensures.ok;
      due = c.in_ok-history.ensures.told;
      made = c.in_ok-lines_of.ensures ∙ ap hex_lines (c.as_slice.ensures.value
          ∙ c.in_ok-frames.ensures
          ∙ ap (λ (b : WordBook). view input.first b c.in_ok-history.history c.args.server)
          c.in_ok-book.ensures.words);
    }
