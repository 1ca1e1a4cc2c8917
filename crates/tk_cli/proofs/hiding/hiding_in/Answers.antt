-- What refuses the input, and what it is answered with.
use Rattle.std.proofs.Common.{◌≡◌, ◌∙◌, length, refl, ap, sym, subst, ℕ, Option}
use Rattle.std.specs.Prelude.{Err}
use Rattle.tk_shape.specs.declared.differs.Differs.{Differs}
use Rattle.tk_cli.specs.declared.request.Request.TheVariants as request
use Rattle.tk_cli.specs.declared.status.Status.{Status}
use Rattle.tk_cli.specs.Errors.{book_status, history_status}
use Rattle.tk_cli.specs.Inputs.{Refuses, bad_history_line, difference, shapes_refusal, history_refusal, server_refusal}
use Rattle.tk_cli.proofs.ErrorLaws.{err_then}
use Rattle.tk_cli.proofs.HidingLaws.{told-legal}
use Rattle.tk_cli.proofs.LiftLaws.{kept-whole}
use Rattle.tk_cli.proofs.InputLaws.{whole-not_refused, book-refuses, history-refuses, server-refuses}
use Rattle.tk_cli.proofs.hiding.hiding_in.Goals as goal

pub tape_in-requires : goal.tape_in-requires
tape_in-requires c = c.requires.tape

pub returns-in_err-tape-clause-refused : goal.returns-in_err-tape-clause-refused
returns-in_err-tape-clause-refused c =
    let input = c.args.input in
    let r = request.Mirror c.args.hidden in
    let e = c.in_err-tape.field-0.0 in
    err_then (λ (s : Status). s ≡ book_status e) (Refuses r input) c.from_residual.result
    c.from_residual.ensures.1 (λ s is. subst (Refuses r input) (sym is) (book-refuses e r input
    (λ want got tells. c.in_err-tape.ensures.other want got (ap Err tells))))

pub returns-in-Some-differs-clause-refused : goal.returns-in-Some-differs-clause-refused
returns-in-Some-differs-clause-refused c =
    let input = c.args.input in
    let S = input.first.shape in
    let rest = history_refusal (bad_history_line S input.history)
    (server_refusal c.args.hidden S.servers) in
    whole-not_refused S input.tape (shapes_refusal (difference S input.second) rest)
    c.in_ok-tape.ensures.whole
    ∙ ap (λ (d : Option Differs). shapes_refusal d rest)
    (ap (difference S) c.in-Some.is ∙ sym c.in-Some-differs.ensures.first)

pub returns-in_err-history-clause-refused : goal.returns-in_err-history-clause-refused
returns-in_err-history-clause-refused c =
    let input = c.args.input in
    let S = input.first.shape in
    let r = request.Mirror c.args.hidden in
    let e = c.in_err-history.field-0.0 in
    let behind = server_refusal c.args.hidden S.servers in
    let rest = history_refusal (bad_history_line S input.history) behind in
    err_then (λ (s : Status). s ≡ history_status e) (Refuses r input)
    c.from_residual-in_err-history.result c.from_residual-in_err-history.ensures.1
    (λ s is. subst (Refuses r input) (sym is) (history-refuses e (bad_history_line S input.history)
    r input behind c.in_err-history.ensures.bad
    (whole-not_refused S input.tape (shapes_refusal (difference S input.second) rest)
    c.in_ok-tape.ensures.whole
    ∙ ap (λ (d : Option Differs). shapes_refusal d rest)
    (ap (difference S) c.in-Some.is ∙ sym c.differs.ensures.first ∙ c.in_default-differs.is))))

pub returns-in_err-server_in-clause-refused : goal.returns-in_err-server_in-clause-refused
returns-in_err-server_in-clause-refused c =
    let input = c.args.input in
    let S = input.first.shape in
    let r = request.Mirror c.args.hidden in
    let e = c.in_err-server_in.field-0.0 in
    let behind = server_refusal c.args.hidden S.servers in
    let rest = history_refusal (bad_history_line S input.history) behind in
    err_then (λ (s : Status). s ≡ e) (Refuses r input) c.from_residual-in_err-server_in.result
    c.from_residual-in_err-server_in.ensures.1 (λ s is. subst (Refuses r input) (sym is)
    (server-refuses c.args.hidden S.servers e r input c.in_err-server_in.ensures.hidden
    (whole-not_refused S input.tape (shapes_refusal (difference S input.second) rest)
    c.in_ok-tape.ensures.whole
    ∙ ap (λ (d : Option Differs). shapes_refusal d rest)
    (ap (difference S) c.in-Some.is ∙ sym c.differs.ensures.first ∙ c.in_default-differs.is)
    ∙ ap (λ (b : Option ℕ). history_refusal b behind) c.in_ok-history.ensures.bad
    ∙ c.in_err-server_in.ensures.err)))

pub returns-clause-parts : goal.returns-clause-parts
returns-clause-parts c =
    let input = c.args.input in
    let S = input.first.shape in
    let behind = server_refusal c.args.hidden S.servers in
    let rest = history_refusal (bad_history_line S input.history) behind in
    record {
      accepted =
          whole-not_refused S input.tape (shapes_refusal (difference S input.second) rest)
          c.in_ok-tape.ensures.whole
          ∙ ap (λ (d : Option Differs). shapes_refusal d rest)
          (ap (difference S) c.in-Some.is ∙ sym c.differs.ensures.first ∙ c.in_default-differs.is)
          ∙ ap (λ (b : Option ℕ). history_refusal b behind) c.in_ok-history.ensures.bad
          ∙ c.in_ok-server_in.ensures.ok;
      first = refl;
      second = c.in-Some.is;
      told = c.in_ok-history.ensures.told;
      replies = refl;
      kept = c.in_ok-tape.ensures.kept;
      legal = told-legal S input.history c.in_ok-history.history c.in_ok-history.ensures.told;
      whole = ap length c.in_ok-tape.ensures.kept
          ∙ kept-whole S input.tape c.requires.tape c.in_ok-tape.ensures.whole;
    }
