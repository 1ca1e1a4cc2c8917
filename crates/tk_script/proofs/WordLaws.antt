-- A line of words alone, and what is read with lines after it.
use Rattle.std.proofs.Common.{◌≡◌, ℕ, List, Result, Ok, refl}
use Rattle.std.proofs.lemmas.Slice.Eq.{bytes_eq-Decides}
use Rattle.std.specs.Str.{bytes_eq}
use Rattle.tk_script.specs.declared.cause.Cause.TheVariants as cause
use Rattle.tk_script.specs.Grammar.{Line}
use Rattle.tk_script.specs.Reading.{Place, Refusal, read_words}
use Rattle.tk_script.proofs.OptionLaws.{ok_if}
use Rattle.tk_script.proofs.PartLaws.{same_bytes}

-- a place, by its parts
abbrev pub at : ℕ → List Line → Place
at line lines = record { line = line; rest = lines }

-- this is read, and what is after it comes next
abbrev pub Comes : {X : Type 0} → Result (X × Place) Refusal → X → List Line → Type 0
Comes r x behind = (n : ℕ) × (r ≡ Ok (x, at n behind))

pub words_own : (words : List ℕ) → read_words words words ≡ Ok tt
words_own words = rw (same_bytes words) refl

pub words_from : (words line : List ℕ) (x : Unit {0}) → read_words words line ≡ Ok x →
    line ≡ words
words_from words line x e =
    (bytes_eq-Decides line words).0 (ok_if (bytes_eq line words) tt x cause.Form e).0
