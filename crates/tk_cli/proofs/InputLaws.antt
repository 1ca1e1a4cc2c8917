-- The input of a request, and what refuses it.
use Rattle.std.proofs.Common.{◌≡◌, ◌∙◌, ◌==◌, ◌≢◌, refl, ap, sym, subst, ℕ, List, cond, Option, Some, arith}
use Rattle.std.specs.Prelude.{None, Result, Ok, Err, IfOk, IfErr}
use Rattle.std.proofs.lemmas.Bool.Decides.{nat_tests}
use Rattle.tk_io.specs.Content.{TakesUpTo}
use Rattle.tk_shape.specs.declared.shape.Shape.{Shape}
use Rattle.tk_shape.specs.Lengths.{tape_len}
use Rattle.tk_schedule.specs.declared.history.History.{History}
use Rattle.tk_schedule.specs.declared.error.HistoryError.{HistoryError}
use Rattle.tk_schedule.specs.declared.error.HistoryError.TheVariants as history_error
use Rattle.tk_schedule.specs.Told.{Names}
use Rattle.tk_script.specs.declared.book.BookError.{BookError}
use Rattle.tk_script.specs.declared.book.BookError.TheVariants as book_error
use Rattle.tk_script.specs.declared.form.Form.{Form}
use Rattle.tk_script.specs.declared.input.RawTape.{RawTape}
use Rattle.tk_script.specs.declared.input.Input.{Input}
use Rattle.tk_script.specs.Book.{HasTape, IsWholeTape, IsOtherTape}
use Rattle.tk_script.specs.Grammar.{Spells}
use Rattle.tk_script.proofs.Offers.{spelled-HasTape, spelled-IsWholeTape}
use Rattle.tk_cli.specs.declared.request.Request.{Request}
use Rattle.tk_cli.specs.declared.request.Request.TheVariants as request
use Rattle.tk_cli.specs.declared.status.Status.{Status}
use Rattle.tk_cli.specs.declared.status.Status.TheVariants as status
use Rattle.tk_cli.specs.Errors.{book_status, history_status}
use Rattle.tk_cli.specs.Inputs.{ReadsWhole, Refuses, Stops}
use Rattle.tk_cli.specs.Inputs.{form_of, tape_refusal, wide_refusal, shapes_refusal, history_refusal}
use Rattle.tk_cli.specs.Inputs.{server_refusal, phase_refusal, difference, bad_history_line, hiding_refusal, refusal_of}
use Rattle.tk_cli.specs.Endings.{IsTextFor, IsAnswered}

-- ---- how much was taken

-- of two things that are not so, one may stand for the other
pub not_over : {A B : Type 0} (limit : ℕ) (left left' : Option (List ℕ)) (taken : List ℕ) →
    TakesUpTo limit left left' A taken → ¬ A → ¬ B → TakesUpTo limit left left' B taken
not_over limit left left' taken t a b = record {
  bytes = t.bytes;
  most = t.most;
  exactly = (λ over. absurd (b over), λ more. absurd (a (t.exactly.1 more)));
}

-- and so may one of two things that say the same
pub over-as : {A B : Type 0} (limit : ℕ) (left left' : Option (List ℕ)) (taken : List ℕ) →
    TakesUpTo limit left left' A taken → (A → B) → (B → A) → TakesUpTo limit left left' B taken
over-as limit left left' taken t to from = record {
  bytes = t.bytes;
  most = t.most;
  exactly = (λ over. t.exactly.0 (from over), λ more. to (t.exactly.1 more));
}

-- ---- the tape

-- a whole tape refuses nothing
unrefused : (g l : ℕ) (behind : Option Status) (s : Status) → g ≡ l →
    cond (g == l) behind (Some s) ≡ behind
unrefused g l behind s same = grind (arith, nat_tests)

pub whole-not_refused : (shape : Shape) (tape : Option RawTape) (behind : Option Status) →
    IsWholeTape shape tape → tape_refusal shape tape behind ≡ behind
whole-not_refused shape None behind whole = refl
whole-not_refused shape (Some tape) behind whole =
    unrefused tape.got (tape_len shape) behind _ whole.1

-- one of another length does
differing : (g l : ℕ) (behind : Option Status) (want got : ℕ) → want ≡ l → got ≡ g → want ≢ got →
    cond (g == l) behind (Some (status.Tape l g)) ≡ Some (status.Tape want got)
differing g l behind want got wanted gotten other = grind (arith, nat_tests)

pub other-refused : (shape : Shape) (tape : Option RawTape) (behind : Option Status)
    (want got : ℕ) → IsOtherTape shape tape want got →
    tape_refusal shape tape behind ≡ Some (status.Tape want got)
other-refused shape tape behind want got other =
    subst (λ t. tape_refusal shape t behind ≡ Some (status.Tape want got)) (sym other.there)
    (differing other.read.got (tape_len shape) behind want got other.wanted other.gotten
    other.other)

-- where the tape refuses nothing it is whole
unrefused-got : (g l : ℕ) (behind : Option Status) (s : Status) →
    cond (g == l) behind (Some s) ≡ None → g ≡ l
unrefused-got g l behind s none = grind (arith, nat_tests)

unrefused-whole : (shape : Shape) (tape : Option RawTape) (behind : Option Status) →
    HasTape shape None tape → tape_refusal shape tape behind ≡ None → IsWholeTape shape tape
unrefused-whole shape None behind has none = tt
unrefused-whole shape (Some tape) behind has none =
    let got = unrefused-got tape.got (tape_len shape) behind _ none in (has got, got)

pub accepted-whole : (f : Form) (bytes : List ℕ) (input : Input) (behind : Option Status) →
    Spells f bytes input → tape_refusal input.first.shape input.tape behind ≡ None →
    IsWholeTape input.first.shape input.tape
accepted-whole f bytes input behind spelled none =
    spelled-IsWholeTape f bytes input spelled (λ drawn.
    unrefused-whole input.first.shape input.tape behind
    (subst (λ k. HasTape input.first.shape k input.tape) drawn
    (spelled-HasTape f bytes input spelled)) none)

-- ---- how a request ends

-- an input that was read refuses it
pub refuses-stops : (r : Request) (s : Status) (left left' : Option (List ℕ)) (f f' : ℕ)
    (input : Input) → ReadsWhole (form_of r) left left' input → Refuses r input s →
    Stops r s left left' f f'
refuses-stops r status.Done left left' f f' input read refuses = absurd refuses
refuses-stops r status.Memory left left' f f' input read refuses = tt
refuses-stops r status.Usage left left' f f' input read refuses = absurd refuses
refuses-stops r (status.Script line c) left left' f f' input read refuses = absurd refuses
refuses-stops r status.Read left left' f f' input read refuses = absurd refuses
refuses-stops r status.Write left left' f f' input read refuses = absurd refuses
refuses-stops r status.TooLong left left' f f' input read refuses = absurd refuses
refuses-stops r s left left' f f' input read refuses =
    record { input = input; read = read; refused = refuses }

-- ---- what refuses an input, one after the other

-- the tape of another length
hiding-tape : (h : ℕ) (input : Input) (want got : ℕ) →
    IsOtherTape input.first.shape input.tape want got →
    hiding_refusal h input ≡ Some (status.Tape want got)
hiding-tape h input want got other =
    let S = input.first.shape in
    other-refused S input.tape (shapes_refusal (difference S input.second)
    (history_refusal (bad_history_line S input.history) (server_refusal h S.servers)))
    want got other

refusal-tape : (r : Request) (input : Input) (want got : ℕ) →
    IsOtherTape input.first.shape input.tape want got →
    refusal_of r input ≡ Some (status.Tape want got)
refusal-tape (request.View j) input want got other =
    let S = input.first.shape in
    other-refused S input.tape
    (history_refusal (bad_history_line S input.history) (server_refusal j S.servers)) want got other
refusal-tape (request.Mirror h) input want got other = hiding-tape h input want got other
refusal-tape (request.Wrong h) input want got other = hiding-tape h input want got other
refusal-tape request.Lift input want got other =
    let S = input.first.shape in
    other-refused S input.tape (wide_refusal S input.tape None) want got other
refusal-tape (request.Resume epoch) input want got other =
    let S = input.first.shape in
    other-refused S input.tape (phase_refusal epoch S.phases) want got other
refusal-tape r input want got other =
    other-refused input.first.shape input.tape None want got other

pub book-refuses : (e : BookError) (r : Request) (input : Input) →
    ((want got : ℕ) → e ≡ book_error.Tape want got →
    IsOtherTape input.first.shape input.tape want got) → Refuses r input (book_status e)
book-refuses (book_error.Tape want got) r input other =
    refusal-tape r input want got (other want got refl)
book-refuses book_error.Memory r input other = tt

-- a tape that the book took
pub book-accepts : (f : Form) (bytes : List ℕ) (input : Input) (behind : Option Status) →
    Spells f bytes input → (input.first.keys ≡ None → IsWholeTape input.first.shape input.tape) →
    tape_refusal input.first.shape input.tape behind ≡ behind
book-accepts f bytes input behind spelled whole =
    whole-not_refused input.first.shape input.tape behind
    (spelled-IsWholeTape f bytes input spelled whole)

-- a bad line of the history
pub history-refuses : (e : HistoryError) (bad : Option ℕ) (r : Request) (input : Input)
    (behind : Option Status) →
    (let a : Result History HistoryError = Err e in Names (λ H. None) a bad) →
    refusal_of r input ≡ history_refusal bad behind → Refuses r input (history_status e)
history-refuses (history_error.Line at) bad r input behind named is =
    is ∙ ap (λ b. history_refusal b behind) named
history-refuses history_error.Memory bad r input behind named is = tt

-- a server that isn't one
pub server-refuses : (got servers : ℕ) (s : Status) (r : Request) (input : Input) →
    s ≡ status.Hidden got servers → refusal_of r input ≡ Some s → Refuses r input s
server-refuses got servers s r input is refused =
    subst (λ x. refusal_of r input ≡ Some x → Refuses r input x) (sym is) (λ same. same) refused

-- an epoch past the last
pub epoch-refuses : (e : ℕ) (s : Status) (input : Input) →
    IsWholeTape input.first.shape input.tape → s ≡ status.Phase e input.first.shape.phases →
    phase_refusal e input.first.shape.phases ≡ Some s → Refuses (request.Resume e) input s
epoch-refuses e s input whole is refused =
    let S = input.first.shape in
    let r = request.Resume e in
    subst (λ x. refusal_of r input ≡ Some x → Refuses r input x) (sym is) (λ same. same)
    (whole-not_refused S input.tape (phase_refusal e S.phases) whole ∙ refused)

-- ---- where an input is had

-- a run that an input of its form refuses
pub run-stops : (form : Form) (r : Request) (s : Status) (left left' : Option (List ℕ)) (f f' : ℕ)
    (input : Input) → ReadsWhole form left left' input → form_of r ≡ form → Refuses r input s →
    Stops r s left left' f f'
run-stops form r s left left' f f' input read is refuses =
    refuses-stops r s left left' f f' input
    (subst (λ k. ReadsWhole k left left' input) (sym is) read) refuses

refused-short : (s : Status) (r : Request) (input : Input) → Refuses r input s →
    s ≢ status.TooLong
refused-short s r input refuses is = subst (Refuses r input) is refuses

pub err_same : {X : Type 0} (s t : Status) → (let a : Result X Status = Err s in a ≡ Err t) →
    s ≡ t
err_same s t e = cc

pub ok_long : {Y : Type 0} (y : Y) → ¬ (let a : Result Y Status = Ok y in a ≡ Err status.TooLong)
ok_long y is = cc

pub err-short : {X : Type 0} (res : Result X Status) →
    IfErr res (λ s. s ≢ status.TooLong) → ¬ (res ≡ Err status.TooLong)
err-short (Ok x) short is = cc
err-short {X} (Err s) short is = short (err_same {X = X} s status.TooLong is)

pub book-short : (e : BookError) (s : Status) → s ≡ book_status e → s ≢ status.TooLong
book-short (book_error.Tape want got) s is long = cc
book-short book_error.Memory s is long = cc

-- what an input that was read is answered with
module _ {X : Type 0} (r : Request) (left left' : Option (List ℕ)) (f f' : ℕ) (input : Input)
    (read : ReadsWhole (form_of r) left left' input) (items : X → List ℕ) where
  pub made-by : (res : Result X Status) → IfOk res (λ x. IsTextFor r input (items x)) →
      IfOk res (λ x. IsAnswered r left left' (items x))
  made-by (Ok x) answer = record { input = input; read = read; answer = answer }
  made-by (Err s) answer = tt

  pub stopped-by : (res : Result X Status) → IfErr res (Refuses r input) →
      IfErr res (λ s. Stops r s left left' f f')
  stopped-by (Ok x) refuses = tt
  stopped-by (Err s) refuses = refuses-stops r s left left' f f' input read refuses

  not_long : (res : Result X Status) → IfErr res (Refuses r input) → ¬ (res ≡ Err status.TooLong)
  not_long (Ok x) refuses is = cc
  not_long (Err s) refuses is =
      refused-short s r input refuses (err_same {X = X} s status.TooLong is)

  pub taken-by : {Y : Type 0} (limit : ℕ) (y : Y) (res : Result X Status) →
      IfErr res (Refuses r input) →
      ((taken : List ℕ) × TakesUpTo limit left left'
      (let a : Result Y Status = Ok y in a ≡ Err status.TooLong) taken) →
      (taken : List ℕ) × TakesUpTo limit left left' (res ≡ Err status.TooLong) taken
  taken-by limit y res refuses t =
      (t.0, not_over limit left left' t.0 t.1 (ok_long y) (not_long res refuses))
