-- What refuses a script to be lifted, and what it is lifted to.
use Rattle.std.proofs.Common.{◌≡◌, ◌∙◌, ◌≤◌, ◌<◌, ◌++◌, append-nil, refl, ap, sym, ℕ, List, [], length, cond, Option, Some, arith}
use Rattle.std.specs.Prelude.{None, IsSome, nat_lt}
use Rattle.std.proofs.lemmas.Bool.Decides.{nat_tests}
use Rattle.tk_shape.specs.declared.shape.Shape.{Shape}
use Rattle.tk_shape.specs.Lengths.{tape_len}
use Rattle.tk_shape.specs.Lifting.{lifted_shape}
use Rattle.tk_words.specs.declared.lifting.LiftError.{LiftError}
use Rattle.tk_words.specs.declared.lifting.LiftError.TheVariants as lift_error
use Rattle.tk_words.specs.Words.{WordBook, drawn}
use Rattle.tk_words.specs.Lifting.{lifted_book, lifted_tape}
use Rattle.tk_schedule.specs.Schedule.{serial_history}
use Rattle.tk_script.specs.declared.form.Form.TheVariants as form
use Rattle.tk_script.specs.declared.input.RawTape.{RawTape}
use Rattle.tk_script.specs.declared.input.Input.{Input}
use Rattle.tk_script.specs.declared.keys.Keys.{Keys}
use Rattle.tk_script.specs.declared.script.Script.{Script}
use Rattle.tk_script.specs.Book.{HasTape, IsWholeTape, book_from, book_of}
use Rattle.tk_script.specs.Grammar.{Line, TapeFor, Spells}
use Rattle.tk_script.specs.Lifting.{lifted_script}
use Rattle.tk_script.specs.Printing.{printed, printed_tape}
use Rattle.tk_cli.specs.declared.request.Request.TheVariants as request
use Rattle.tk_cli.specs.declared.status.Status.{Status}
use Rattle.tk_cli.specs.declared.status.Status.TheVariants as status
use Rattle.tk_cli.specs.Errors.{lift_status}
use Rattle.tk_cli.specs.Inputs.{Refuses, kept_in, refusal_of, wide_refusal}
use Rattle.tk_cli.specs.Endings.{IsTextFor, IsLiftedText, sections_of}
use Rattle.tk_cli.proofs.InputLaws.{whole-not_refused}

-- ---- the tape of a drawn script

pub kept-whole : (shape : Shape) (tape : Option RawTape) → HasTape shape None tape → IsWholeTape shape tape →
    length (kept_in tape) ≡ tape_len shape
kept-whole shape None has whole = absurd has
kept-whole shape (Some tape) has whole = whole.0

kept-book : (shape : Shape) (keys : Option Keys) (tape : Option RawTape) → keys ≡ None → HasTape shape None tape →
    book_from keys tape ≡ drawn (kept_in tape)
kept-book shape keys None is has = absurd has
kept-book shape keys (Some tape) is has = ap (λ k. book_from k (Some tape)) is

-- ---- what refuses it

short : (n : ℕ) (s behind : Option Status) → n ≤ 2097152 → cond (nat_lt 2097152 n) s behind ≡ behind
short n s behind h = grind (arith, nat_tests)

long : (n : ℕ) (s behind : Option Status) → 2097152 < n → cond (nat_lt 2097152 n) s behind ≡ s
long n s behind h = grind (arith, nat_tests)

short-not_wide : (shape : Shape) (tape : Option RawTape) (behind : Option Status) →
    tape_len (lifted_shape shape) ≤ 2097152 → wide_refusal shape tape behind ≡ behind
short-not_wide shape None behind h = refl
short-not_wide shape (Some tape) behind h = short (tape_len (lifted_shape shape)) _ behind h

long-wide : (shape : Shape) (tape : Option RawTape) (behind : Option Status) (want : ℕ) → HasTape shape None tape →
    want ≡ tape_len (lifted_shape shape) → 2097152 < want → wide_refusal shape tape behind ≡ Some (status.Wide want)
long-wide shape None behind want has is h = absurd has
long-wide shape (Some tape) behind want has is h =
    let wide = tape_len (lifted_shape shape) in
    long wide (Some (status.Wide wide)) behind (omega (arith, is, h))
    ∙ ap (λ (n : ℕ). Some (status.Wide n)) (sym is)

pub lift-refuses : (e : LiftError) (input : Input) → HasTape input.first.shape None input.tape →
    IsWholeTape input.first.shape input.tape →
    ((want : ℕ) → e ≡ lift_error.Wide want →
    (want ≡ tape_len (lifted_shape input.first.shape)) × (2097152 < want)) →
    Refuses request.Lift input (lift_status e)
lift-refuses (lift_error.Wide want) input has whole wide =
    let shape = input.first.shape in
    let is = wide want refl in
    whole-not_refused shape input.tape (wide_refusal shape input.tape None) whole
    ∙ long-wide shape input.tape None want has is.0 is.1
lift-refuses lift_error.Memory input has whole wide = tt

pub lift-accepts : (input : Input) → IsWholeTape input.first.shape input.tape →
    tape_len (lifted_shape input.first.shape) ≤ 2097152 → refusal_of request.Lift input ≡ None
lift-accepts input whole fits =
    let shape = input.first.shape in
    whole-not_refused shape input.tape (wide_refusal shape input.tape None) whole
    ∙ short-not_wide shape input.tape None fits

-- ---- a keyed script

no_tape : (shape : Shape) (keys : Option Keys) (lines : List Line) (tape : Option RawTape) → IsSome keys →
    TapeFor shape keys lines tape → tape ≡ None
no_tape shape None lines tape is ends = absurd cc
no_tape shape (Some keys) lines tape is ends = ends.1

keyed_sections : (shape : Shape) (keys : Option Keys) (tape : Option RawTape) (T : Script) → IsSome keys →
    sections_of (Some T) (lifted_book shape (book_from keys tape)) ≡ printed T ++ []
keyed_sections shape None tape T is = absurd cc
keyed_sections shape (Some keys) tape T is = refl

pub keyed-answer : (input : Input) (bytes text : List ℕ) → Spells form.Run bytes input → IsSome input.first.keys →
    IsLiftedText input.first text → IsTextFor request.Lift input text
keyed-answer input bytes text spelled keyed lifted =
    let shape = input.first.shape in
    let none = no_tape shape input.first.keys spelled.rest input.tape keyed spelled.tape in
    record {
      history = serial_history shape;
      accepted = ap (λ t. refusal_of request.Lift (record input { tape = t })) none;
      due = tt;
      made =
          lifted.is ∙ sym (append-nil (printed lifted.script))
          ∙ sym (keyed_sections shape input.first.keys input.tape lifted.script keyed)
          ∙ ap (λ (T : Option Script). sections_of T (lifted_book shape (book_of input))) (sym lifted.lifted);
    }

-- ---- a drawn script

pub drawn-answer : (input : Input) (T : Script) (text : List ℕ) → input.first.keys ≡ None →
    HasTape input.first.shape None input.tape → IsWholeTape input.first.shape input.tape →
    tape_len (lifted_shape input.first.shape) ≤ 2097152 → lifted_script input.first ≡ Some T →
    text ≡ printed T ++ printed_tape (lifted_tape input.first.shape (kept_in input.tape)) →
    IsTextFor request.Lift input text
drawn-answer input T text none has whole fits lifted is =
    let shape = input.first.shape in
    record {
      history = serial_history shape;
      accepted = lift-accepts input whole fits;
      due = tt;
      made =
          is
          ∙ ap (λ (b : WordBook). sections_of (Some T) (lifted_book shape b))
          (sym (kept-book shape input.first.keys input.tape none has))
          ∙ ap (λ (U : Option Script). sections_of U (lifted_book shape (book_of input))) (sym lifted);
    }
