-- What is printed is read back.
use Rattle.std.specs.Prelude.{◌≡◌, ℕ, ◌+◌, List, ◌++◌, length, Option, Some, None}
use Rattle.std.specs.List.{AllByRecursion}
use Rattle.hex.specs.Hex.{IsBytes}
use Rattle.tk_script.specs.declared.script.Script.{Script}
use Rattle.tk_script.specs.declared.keys.Keys.{Keys}
use Rattle.tk_script.specs.declared.form.Form.TheVariants.{Run, Relay, View, Mirror}
use Rattle.tk_script.specs.declared.input.Input.{Input}
use Rattle.tk_script.specs.declared.input.RawTape.{RawTape}
use Rattle.tk_schedule.specs.declared.raw.RawKind.{RawKind}
use Rattle.tk_shape.specs.declared.shape.Shape.{Shape}
use Rattle.tk_script.specs.Grammar.{lines_of, BeginsWithScript, BeginsWithTape, IsTurn, Spells, kept_of}
use Rattle.tk_script.specs.Reading.{numbered}
use Rattle.tk_script.specs.Printing.{lines_of_script, printed, printed_turns, printed_tape, tape_behind, HasKeys}

-- a text that begins with a printed script begins with that script
abbrev pub ReadsPrinted : Script → Type 0
ReadsPrinted S =
    (rest : List ℕ) → BeginsWithScript (lines_of (printed S ++ rest)) S (lines_of rest)

-- a text that begins with a printed tape begins with that tape
abbrev pub ReadsPrintedTape : List ℕ → Type 0
ReadsPrintedTape bytes =
    (rest : List ℕ) → BeginsWithTape (lines_of (printed_tape bytes ++ rest)) bytes (lines_of rest)

abbrev pub PrintsScripts : Type 0
PrintsScripts = (S : Script) → HasKeys S.keys → ReadsPrinted S

abbrev pub PrintsTapes : Type 0
PrintsTapes = (bytes : List ℕ) → IsBytes bytes → ReadsPrintedTape bytes

-- the input of a script of keys
abbrev pub alone : Script → Input
alone S =
    record { first = S; second = None; history = None; replies = None; tape = None }

-- a printed script of keys is all of an input
abbrev pub PrintsKeyed : Type 0
PrintsKeyed = (S : Script) (keys : Keys) → S.keys ≡ Some keys → HasKeys S.keys →
    Spells Run (printed S) (alone S)

-- so it is in the form Relay
abbrev pub PrintsRelayed : Type 0
PrintsRelayed = (S : Script) (keys : Keys) → S.keys ≡ Some keys → HasKeys S.keys →
    Spells Relay (printed S) (alone S)

-- a printed script of drawn words and a printed tape are an input
abbrev pub PrintsDrawn : Type 0
PrintsDrawn = (S : Script) (bytes : List ℕ) → S.keys ≡ None → IsBytes bytes →
    Spells Run (printed S ++ printed_tape bytes) (record {
      first = S;
      second = None;
      history = None;
      replies = None;
      tape = Some (kept_of S.shape bytes);
    })

-- what is kept of a tape after a script
abbrev pub kept_behind_script : Shape → Option Keys → List ℕ → Option RawTape
kept_behind_script shape None bytes = Some (kept_of shape bytes)
kept_behind_script shape (Some keys) bytes = None

-- a printed script, printed turns, and the script's printed tape are an input of the form View
abbrev pub PrintsViews : Type 0
PrintsViews = (S : Script) (turns : List RawKind) (bytes : List ℕ) → HasKeys S.keys →
    AllByRecursion IsTurn turns → IsBytes bytes →
    Spells View (printed S ++ (printed_turns turns ++ tape_behind S.keys bytes)) (record {
      first = S;
      second = None;
      history = Some (numbered (length (lines_of_script S) + 2) turns);
      replies = None;
      tape = kept_behind_script S.shape S.keys bytes;
    })

-- two printed scripts of drawn words, printed turns and a printed tape are an input of the form
-- Mirror
abbrev pub PrintsMirrors : Type 0
PrintsMirrors = (S T : Script) (turns : List RawKind) (bytes : List ℕ) → S.keys ≡ None →
    T.keys ≡ None → AllByRecursion IsTurn turns → IsBytes bytes →
    Spells Mirror (printed S ++ (printed T ++ (printed_turns turns ++ printed_tape bytes)))
    (record {
      first = S;
      second = Some T;
      history =
          Some (numbered (length (lines_of_script S) + length (lines_of_script T) + 2) turns);
      replies = None;
      tape = Some (kept_of S.shape bytes);
    })
