-- A text's input has the tape that its words want, and its words fit its shape.
use Rattle.std.proofs.Common.{◌≡◌, ◌-◌, ◌^◌, ◌==◌, refl, sym, subst, ℕ, List, length, take}
use Rattle.std.proofs.Common.{Option, Some, arith, eqb-true, IsTrue}
use Rattle.std.specs.Prelude.{None, min}
use Rattle.std.proofs.lemmas.Bool.{and_parts}
use Rattle.std.proofs.lemmas.List.{length-take-le}
use Rattle.tk_shape.specs.declared.shape.Shape.{Shape}
use Rattle.tk_shape.specs.Lengths.{tape_len}
use Rattle.tk_words.specs.Words.{IsBook}
use Rattle.tk_script.specs.declared.keys.Keys.{Keys}
use Rattle.tk_script.specs.declared.form.Form.{Form}
use Rattle.tk_script.specs.declared.form.Form.TheVariants.{Run, Relay, View, Mirror, Wrong}
use Rattle.tk_script.specs.declared.input.RawTape.{RawTape}
use Rattle.tk_script.specs.declared.input.Input.{Input}
use Rattle.tk_script.specs.Book.{book_from, book_of, IsWholeTape, HasTape}
use Rattle.tk_script.specs.Grammar.{Line, Spells, TapeFor, kept_of}
use Rattle.tk_script.specs.SoundScript.{has_keys}

-- ---- the tape

-- where as many bytes were counted as the shape wants, as many are kept
all_kept : (size limit : ℕ) (bytes : List ℕ) → min (length bytes) limit ≡ size →
    length (take size bytes) ≡ size
all_kept size limit bytes counted = length-take-le size bytes (omega (arith, counted))

kept-is : (shape : Shape) (bytes : List ℕ) → HasTape shape None (Some (kept_of shape bytes))
kept-is shape bytes counted = all_kept (tape_len shape) (2 ^ 64 - 1) bytes counted

has-tape : (shape : Shape) (keys : Option Keys) (lines : List Line) (tape : Option RawTape) →
    TapeFor shape keys lines tape → HasTape shape keys tape
has-tape shape (Some keys) lines tape ends = tt
has-tape shape None lines tape ends =
    subst (HasTape shape None) (sym ends.2) (kept-is shape ends.0)

-- the tape of an input of any form is that of its first script
ends-with_tape : (form : Form) (bytes : List ℕ) (input : Input) → Spells form bytes input →
    (rest : List Line) × TapeFor input.first.shape input.first.keys rest input.tape
ends-with_tape Run bytes input spelled = (spelled.rest, spelled.tape)
ends-with_tape Relay bytes input spelled = (spelled.run.rest, spelled.run.tape)
ends-with_tape View bytes input spelled = (spelled.rest, spelled.tape)
ends-with_tape Mirror bytes input spelled = (spelled.rest, spelled.tape)
ends-with_tape Wrong bytes input spelled = (spelled.rest, spelled.tape)

pub spelled-HasTape : (form : Form) (bytes : List ℕ) (input : Input) → Spells form bytes input →
    HasTape input.first.shape input.first.keys input.tape
spelled-HasTape form bytes input spelled =
    let tape = ends-with_tape form bytes input spelled in
    has-tape input.first.shape input.first.keys tape.0 input.tape tape.1

-- a keyed input has no tape, so that a tape is whole if that of a drawn one is
whole-from : (shape : Shape) (keys : Option Keys) (lines : List Line) (tape : Option RawTape) →
    TapeFor shape keys lines tape → (keys ≡ None → IsWholeTape shape tape) →
    IsWholeTape shape tape
whole-from shape None lines tape ends drawn = drawn refl
whole-from shape (Some keys) lines tape ends drawn = subst (IsWholeTape shape) (sym ends.1) tt

pub spelled-IsWholeTape : (form : Form) (bytes : List ℕ) (input : Input) →
    Spells form bytes input → (input.first.keys ≡ None → IsWholeTape input.first.shape input.tape) →
    IsWholeTape input.first.shape input.tape
spelled-IsWholeTape form bytes input spelled drawn =
    let tape = ends-with_tape form bytes input spelled in
    whole-from input.first.shape input.first.keys tape.0 input.tape tape.1 drawn

-- ---- its words fit its shape

book-fits : (shape : Shape) (keys : Option Keys) (tape : Option RawTape) →
    IsTrue (has_keys shape keys) → HasTape shape keys tape → IsWholeTape shape tape →
    IsBook shape (book_from keys tape)
book-fits shape (Some k) tape counted has whole =
    let split = and_parts (length k.handles == shape.logs) (length k.seeds == shape.clients) counted
    in (
      eqb-true (length k.handles) shape.logs split.0,
      eqb-true (length k.seeds) shape.clients split.1,
    )
book-fits shape None (Some t) counted has whole = whole.0
book-fits shape None None counted has whole = absurd has

pub spelled-IsBook : (form : Form) (bytes : List ℕ) (input : Input) → Spells form bytes input →
    IsWholeTape input.first.shape input.tape → IsBook input.first.shape (book_of input)
spelled-IsBook form bytes input spelled whole =
    let S = input.first in
    book-fits S.shape S.keys input.tape S.sound.keys_counted
    (spelled-HasTape form bytes input spelled) whole
