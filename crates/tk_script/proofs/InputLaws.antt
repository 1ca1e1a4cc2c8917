-- An input that is read line by line is the one that the text spells, form by form.
use Rattle.std.proofs.Common.{◌≡◌, ◌∙◌, ℕ, List, Bool, Option, Some, None, Result, Ok, Err, refl, ap, sym, subst, arith}
use Rattle.std.specs.Prelude.{is_some, not, IfOk}
use Rattle.std.specs.Option.{option_map}
use Rattle.tk_schedule.specs.declared.raw.RawLine.{RawLine}
use Rattle.tk_script.specs.declared.error.ScriptError.{ScriptError}
use Rattle.tk_script.specs.declared.error.ScriptError.TheVariants.{Memory, Line as Refused}
use Rattle.tk_script.specs.declared.form.Form.{Form}
use Rattle.tk_script.specs.declared.form.Form.TheVariants.{Run, Relay, View, Mirror, Wrong}
use Rattle.tk_script.specs.declared.input.Input.{Input}
use Rattle.tk_script.specs.declared.input.RawTape.{RawTape}
use Rattle.tk_script.specs.declared.keys.Keys.{Keys}
use Rattle.tk_script.specs.declared.kinds.Kinds.{Kinds}
use Rattle.tk_script.specs.declared.kinds.Kinds.TheVariants.{Keyed, Drawn, Either}
use Rattle.tk_script.specs.declared.reply.RawReply.{RawReply}
use Rattle.tk_script.specs.declared.script.Script.{Script}
use Rattle.tk_script.specs.declared.two_scripts.TwoScripts.{TwoScripts}
use Rattle.tk_script.specs.Answer.{IsMemory, IsRefusal, Gives, Agrees}
use Rattle.tk_script.specs.Grammar.{Line, lines_of, number_of_first, BeginsWithHistory, BeginsWithTwo, EndsWithTape, IsRunInput, IsRelayInput, IsViewInput, IsMirrorInput, IsWrongInput, Spells}
use Rattle.tk_script.specs.Laws.{SpellsOne, ReadsWhatIsSpelled, GivesInputs}
use Rattle.tk_script.specs.Reading.{Place, ScriptLines, TwoLines, InputLines, front, read_script, read_history, read_replies, read_tape_of, read_run, read_view, read_two, read_mirror, read_wrong, read_input, script_lines, two_lines, lines_with, input_lines}
use Rattle.tk_script.proofs.AnswerLaws.{then_said}
use Rattle.tk_script.proofs.CauseLaws.{IsDue}
use Rattle.tk_script.proofs.EndLaws.{end_from, end_whole_of}
use Rattle.tk_script.proofs.HistoryLaws.{history_from, history_whole}
use Rattle.tk_script.proofs.OptionLaws.{ok_same}
use Rattle.tk_script.proofs.ReplyLaws.{replies_whole, replies_from}
use Rattle.tk_script.proofs.RowLaws.{Steps, then_steps, then_from}
use Rattle.tk_script.proofs.ScriptLaws.{same_script, same_input}
use Rattle.tk_script.proofs.ShapeLaws.{same_named}
use Rattle.tk_script.proofs.SpelledLaws.{script_read, script_whole}
use Rattle.tk_script.proofs.WordLaws.{at, Comes}

-- an input of these lines, of which this holds
pub record InputOf (P : Input → Type 0) (t : InputLines) : Type 0 where
  pub input : Input
  pub spelled : P input
  pub is : t ≡ input_lines input

abbrev lines_by : Option ScriptLines → Option (List RawLine) → Option (List RawReply) →
    Option RawTape → ScriptLines → InputLines
lines_by second history replies tape first =
    record { first = first; second = second; history = history; replies = replies; tape = tape }

-- ---- the tape after the sections

tape_read : (S : Script) (script : ScriptLines) (p : Place) (tape : Option RawTape) →
    script ≡ script_lines S → read_tape_of script p ≡ Ok tape → EndsWithTape S p.rest tape
tape_read S script p tape is e =
    end_from S.shape S.keys p tape (ap (λ s. read_tape_of s p) (sym is) ∙ e)

tape_whole : (S : Script) (line : ℕ) (lines : List Line) (tape : Option RawTape) →
    EndsWithTape S lines tape → read_tape_of (script_lines S) (at line lines) ≡ Ok tape
tape_whole S line lines tape h = end_whole_of S.shape S.keys line lines tape h

-- the number of the first line after what was read from the front
number_behind : (lines : List Line) (q : Place) → Steps (front lines) q →
    q.line ≡ number_of_first lines q.rest
number_behind lines q s = omega (arith, s.number, s.lines)

-- ---- scripts that may be keyed, or drawn

either_due : (keyed : Bool) → IsDue Either keyed
either_due keyed = refl

drawn_due : (keys : Option Keys) → keys ≡ None → IsDue Drawn (is_some keys)
drawn_due keys drawn = ap (λ k. not (is_some k)) drawn

due_drawn : (keys : Option Keys) → IsDue Drawn (is_some keys) → keys ≡ None
due_drawn None due = refl
due_drawn (Some keys) due = absurd (cc due)

keyed_due : (keys : Option Keys) (own : Keys) → keys ≡ Some own → IsDue Keyed (is_some keys)
keyed_due keys own keyed = ap is_some keyed

due_keyed : (keys : Option Keys) → IsDue Keyed (is_some keys) → (own : Keys) × (keys ≡ Some own)
due_keyed None due = absurd (cc due)
due_keyed (Some keys) due = (keys, refl)

-- what an input says, by its parts
lines_are : (input : Input) (second : Option Script) (history : Option (List RawLine))
    (replies : Option (List RawReply)) → input.second ≡ second → input.history ≡ history →
    input.replies ≡ replies →
    lines_by (option_map script_lines second) history replies input.tape (script_lines input.first)
    ≡ input_lines input
lines_are input second history replies s h r = λ i. record {
  first = script_lines input.first;
  second = option_map script_lines (sym s i);
  history = sym h i;
  replies = sym r i;
  tape = input.tape;
}

-- ---- a script, and its tape

run_whole : (kinds : Kinds) (lines : List Line) (input : Input) → IsRunInput lines input →
    IsDue kinds (is_some input.first.keys) → read_run kinds lines ≡ Ok (input_lines input)
unfolding read_run
run_whole kinds lines input s due =
    let S = input.first in
    let script = script_whole kinds 1 lines S s.rest s.script due in
    then_said _ script.1 (then_said _ (tape_whole S script.0 s.rest input.tape s.tape)
    (ap Ok (lines_are input None None None s.no_second s.no_history s.no_replies)))

-- an input of a script of one of these kinds
abbrev IsRunOf : Kinds → List Line → Input → Type 0
IsRunOf kinds lines input = IsRunInput lines input × IsDue kinds (is_some input.first.keys)

run_read : (kinds : Kinds) (lines : List Line) (t : InputLines) → read_run kinds lines ≡ Ok t →
    InputOf (IsRunOf kinds lines) t
unfolding read_run
run_read kinds lines t e =
    let first = then_from (read_script kinds (front lines)) _ t e in
    let tape = then_from (read_tape_of first.0.0 first.0.1) _ t first.2 in
    let script = script_read kinds (front lines) first.0 first.1 in
    let lines_of_input = lines_by None None None tape.0 in
    record {
      input = record {
        first = script.script;
        second = None;
        history = None;
        replies = None;
        tape = tape.0;
      };
      spelled = (
        record {
          rest = first.0.1.rest;
          script = script.begins;
          no_second = refl;
          no_history = refl;
          no_replies = refl;
          tape = tape_read script.script first.0.0 first.0.1 tape.0 script.is tape.1;
        },
        script.due,
      );
      is = sym (ok_same (lines_of_input first.0.0) t tape.2) ∙ ap lines_of_input script.is;
    }

any_read : (lines : List Line) (t : InputLines) → read_run Either lines ≡ Ok t →
    InputOf (IsRunInput lines) t
any_read lines t e =
    let run = run_read Either lines t e in
    record { input = run.input; spelled = run.spelled.0; is = run.is }

-- ---- a keyed script alone

relay_whole : (lines : List Line) (input : Input) → IsRelayInput lines input →
    read_run Keyed lines ≡ Ok (input_lines input)
relay_whole lines input s =
    run_whole Keyed lines input s.run (keyed_due input.first.keys s.keys s.keyed)

relay_read : (lines : List Line) (t : InputLines) → read_run Keyed lines ≡ Ok t →
    InputOf (IsRelayInput lines) t
relay_read lines t e =
    let run = run_read Keyed lines t e in
    let keys = due_keyed run.input.first.keys run.spelled.1 in
    record {
      input = run.input;
      spelled = record { keys = keys.0; keyed = keys.1; run = run.spelled.0 };
      is = run.is;
    }

-- ---- a script, a history, and the script's tape

view_whole : (lines : List Line) (input : Input) → IsViewInput lines input →
    read_view lines ≡ Ok (input_lines input)
unfolding read_view
view_whole lines input s =
    let S = input.first in
    let script = script_whole Either 1 lines S s.behind_script s.script
    (either_due (is_some S.keys)) in
    let behind = at script.0 s.behind_script in
    let read = script_read Either (front lines) (script_lines S, behind) script.1 in
    let history = history_whole script.0 s.behind_script s.raw s.rest
    (subst (λ n. BeginsWithHistory n s.behind_script s.raw s.rest)
    (sym (number_behind lines behind read.steps)) s.history) in
    then_said _ script.1 (then_said _ history.1
    (then_said _ (tape_whole S history.0 s.rest input.tape s.tape)
    (ap Ok (lines_are input None (Some s.raw) None s.no_second s.has_history s.no_replies))))

view_read : (lines : List Line) (t : InputLines) → read_view lines ≡ Ok t →
    InputOf (IsViewInput lines) t
unfolding read_view
view_read lines t e =
    let first = then_from (read_script Either (front lines)) _ t e in
    let behind = first.0.1 in
    let history = then_from (read_history behind) _ t first.2 in
    let raw = history.0.0 in
    let tape = then_from (read_tape_of first.0.0 history.0.1) _ t history.2 in
    let script = script_read Either (front lines) first.0 first.1 in
    let lines_of_input = lines_by None (Some raw) None tape.0 in
    record {
      input = record {
        first = script.script;
        second = None;
        history = Some raw;
        replies = None;
        tape = tape.0;
      };
      spelled = record {
        behind_script = behind.rest;
        rest = history.0.1.rest;
        raw = raw;
        script = script.begins;
        history = subst (λ n. BeginsWithHistory n behind.rest raw history.0.1.rest)
            (number_behind lines behind script.steps) (history_from behind history.0 history.1);
        no_second = refl;
        has_history = refl;
        no_replies = refl;
        tape = tape_read script.script first.0.0 history.0.1 tape.0 script.is tape.1;
      };
      is = sym (ok_same (lines_of_input first.0.0) t tape.2) ∙ ap lines_of_input script.is;
    }

-- ---- two scripts of drawn words, and a history

two_whole : (lines : List Line) (S T : Script) (raw : List RawLine) (rest : List Line) →
    BeginsWithTwo lines S T raw rest →
    Comes (read_two lines) (two_lines (record { first = S; second = T; history = raw })) rest
unfolding read_two
two_whole lines S T raw rest s =
    let first = script_whole Drawn 1 lines S s.behind_script s.script
    (drawn_due S.keys s.first_drawn) in
    let behind = at first.0 s.behind_script in
    let second = script_whole Drawn first.0 s.behind_script T s.behind_scripts s.other
    (drawn_due T.keys s.second_drawn) in
    let behind_both = at second.0 s.behind_scripts in
    let steps = then_steps (front lines) behind behind_both
    (script_read Drawn (front lines) (script_lines S, behind) first.1).steps
    (script_read Drawn behind (script_lines T, behind_both) second.1).steps in
    let history = history_whole second.0 s.behind_scripts raw rest
    (subst (λ n. BeginsWithHistory n s.behind_scripts raw rest)
    (sym (number_behind lines behind_both steps)) s.history) in
    (history.0, then_said _ first.1 (then_said _ second.1 (then_said _ history.1 refl)))

-- the scripts and the history that were read
record TwoOf (lines : List Line) (two : TwoLines) (rest : List Line) : Type 0 where
  pub own : TwoScripts
  pub is : two ≡ two_lines own
  pub begins : BeginsWithTwo lines own.first own.second own.history rest

two_read : (lines : List Line) (x : TwoLines × Place) → read_two lines ≡ Ok x →
    TwoOf lines x.0 x.1.rest
unfolding read_two
two_read lines x e =
    let first = then_from (read_script Drawn (front lines)) _ x e in
    let behind = first.0.1 in
    let second = then_from (read_script Drawn behind) _ x first.2 in
    let behind_both = second.0.1 in
    let history = then_from (read_history behind_both) _ x second.2 in
    let raw = history.0.0 in
    let one = script_read Drawn (front lines) first.0 first.1 in
    let other = script_read Drawn behind second.0 second.1 in
    let number = number_behind lines behind_both
    (then_steps (front lines) behind behind_both one.steps other.steps) in
    subst (λ (z : TwoLines × Place). TwoOf lines z.0 z.1.rest) (ok_same _ x history.2) (record {
      own = record { first = one.script; second = other.script; history = raw };
      is = λ i. record { first = one.is i; second = other.is i; history = raw };
      begins = record {
        behind_script = behind.rest;
        behind_scripts = behind_both.rest;
        script = one.begins;
        other = other.begins;
        history = subst (λ n. BeginsWithHistory n behind_both.rest raw history.0.1.rest) number
            (history_from behind_both history.0 history.1);
        first_drawn = due_drawn one.script.keys one.due;
        second_drawn = due_drawn other.script.keys other.due;
      };
    })

-- ---- with a tape

mirror_whole : (lines : List Line) (input : Input) → IsMirrorInput lines input →
    read_mirror lines ≡ Ok (input_lines input)
unfolding read_mirror
mirror_whole lines input s =
    let two = two_whole lines input.first s.other s.raw s.rest s.two in
    then_said _ two.1 (then_said _ (tape_whole input.first two.0 s.rest input.tape s.tape)
    (ap Ok
    (lines_are input (Some s.other) (Some s.raw) None s.has_second s.has_history s.no_replies)))

mirror_read : (lines : List Line) (t : InputLines) → read_mirror lines ≡ Ok t →
    InputOf (IsMirrorInput lines) t
unfolding read_mirror
mirror_read lines t e =
    let first = then_from (read_two lines) _ t e in
    let q = first.0.1 in
    let two = two_read lines first.0 first.1 in
    let tape = then_from (read_tape_of first.0.0.first q) _ t first.2 in
    let is_first = ap (λ (z : TwoLines). z.first) two.is in
    record {
      input = record {
        first = two.own.first;
        second = Some two.own.second;
        history = Some two.own.history;
        replies = None;
        tape = tape.0;
      };
      spelled = record {
        other = two.own.second;
        raw = two.own.history;
        rest = q.rest;
        two = two.begins;
        has_second = refl;
        has_history = refl;
        no_replies = refl;
        tape = tape_read two.own.first first.0.0.first q tape.0 is_first tape.1;
      };
      is = sym (ok_same (lines_with None tape.0 first.0.0) t tape.2)
          ∙ ap (lines_with None tape.0) two.is;
    }

-- ---- with replies and a tape

wrong_whole : (lines : List Line) (input : Input) → IsWrongInput lines input →
    read_wrong lines ≡ Ok (input_lines input)
unfolding read_wrong
wrong_whole lines input s =
    let two = two_whole lines input.first s.other s.raw s.behind_history s.two in
    let replies = replies_whole input.first.shape two.0 s.behind_history s.answers s.rest s.replies in
    then_said _ two.1 (then_said _ replies.1
    (then_said _ (tape_whole input.first replies.0 s.rest input.tape s.tape)
    (ap Ok (lines_are input (Some s.other) (Some s.raw) (Some s.answers) s.has_second s.has_history
    s.has_replies))))

wrong_read : (lines : List Line) (t : InputLines) → read_wrong lines ≡ Ok t →
    InputOf (IsWrongInput lines) t
unfolding read_wrong
wrong_read lines t e =
    let first = then_from (read_two lines) _ t e in
    let q = first.0.1 in
    let two = two_read lines first.0 first.1 in
    let second = then_from (read_replies first.0.0.first.numbers q) _ t first.2 in
    let answers = second.0.0 in
    let behind = second.0.1 in
    let tape = then_from (read_tape_of first.0.0.first behind) _ t second.2 in
    let is_first = ap (λ (z : TwoLines). z.first) two.is in
    let numbers = ap (λ (z : ScriptLines). z.numbers) is_first in
    record {
      input = record {
        first = two.own.first;
        second = Some two.own.second;
        history = Some two.own.history;
        replies = Some answers;
        tape = tape.0;
      };
      spelled = record {
        other = two.own.second;
        raw = two.own.history;
        behind_history = q.rest;
        answers = answers;
        rest = behind.rest;
        two = two.begins;
        replies = replies_from two.own.first.shape q second.0
            (ap (λ n. read_replies n q) (sym numbers) ∙ second.1);
        has_second = refl;
        has_history = refl;
        has_replies = refl;
        tape = tape_read two.own.first first.0.0.first behind tape.0 is_first tape.1;
      };
      is = sym (ok_same (lines_with (Some answers) tape.0 first.0.0) t tape.2)
          ∙ ap (lines_with (Some answers) tape.0) two.is;
    }

-- ---- an input of a form

spelled_is_read : (form : Form) (bytes : List ℕ) (input : Input) → Spells form bytes input →
    read_input form (lines_of bytes) ≡ Ok (input_lines input)
spelled_is_read Run bytes input s =
    run_whole Either (lines_of bytes) input s (either_due (is_some input.first.keys))
spelled_is_read Relay bytes input s = relay_whole (lines_of bytes) input s
spelled_is_read View bytes input s = view_whole (lines_of bytes) input s
spelled_is_read Mirror bytes input s = mirror_whole (lines_of bytes) input s
spelled_is_read Wrong bytes input s = wrong_whole (lines_of bytes) input s

input_read : (form : Form) (bytes : List ℕ) (t : InputLines) →
    read_input form (lines_of bytes) ≡ Ok t → InputOf (Spells form bytes) t
input_read Run bytes t e = any_read (lines_of bytes) t e
input_read Relay bytes t e = relay_read (lines_of bytes) t e
input_read View bytes t e = view_read (lines_of bytes) t e
input_read Mirror bytes t e = mirror_read (lines_of bytes) t e
input_read Wrong bytes t e = wrong_read (lines_of bytes) t e

pub gives_inputs : GivesInputs
gives_inputs form bytes t e =
    let read = input_read form bytes t e in
    (read.input, read.spelled, read.is)

one_script : (S T : Script) → script_lines S ≡ script_lines T → S ≡ T
one_script S T e =
    same_script S T (same_named S.shape T.shape (ap (λ (z : ScriptLines). z.numbers) e))
    (ap (λ (z : ScriptLines). z.keys) e) (ap (λ (z : ScriptLines). z.roles) e)
    (ap (λ (z : ScriptLines). z.says) e)

one_second : (a b : Option Script) → option_map script_lines a ≡ option_map script_lines b →
    a ≡ b
one_second None None e = refl
one_second None (Some T) e = absurd (cc e)
one_second (Some S) None e = absurd (cc e)
one_second (Some S) (Some T) e = ap Some (one_script S T (cc e))

-- an input is what its lines say
one_of_lines : (x y : Input) → input_lines x ≡ input_lines y → x ≡ y
one_of_lines x y e =
    same_input x y (one_script x.first y.first (ap (λ (z : InputLines). z.first) e))
    (one_second x.second y.second (ap (λ (z : InputLines). z.second) e))
    (ap (λ (z : InputLines). z.history) e) (ap (λ (z : InputLines). z.replies) e)
    (ap (λ (z : InputLines). z.tape) e)

read_is_spelled : (form : Form) (bytes : List ℕ) (input : Input) →
    read_input form (lines_of bytes) ≡ Ok (input_lines input) → Spells form bytes input
read_is_spelled form bytes input e =
    let read = input_read form bytes (input_lines input) e in
    subst (Spells form bytes) (sym (one_of_lines input read.input read.is)) read.spelled

pub reads_what_is_spelled : ReadsWhatIsSpelled
reads_what_is_spelled form bytes input =
    (spelled_is_read form bytes input, read_is_spelled form bytes input)

pub one_spelled : SpellsOne
one_spelled form bytes x y p q =
    one_of_lines x y (ok_same (input_lines x) (input_lines y)
    (sym (spelled_is_read form bytes x p) ∙ spelled_is_read form bytes y q))

-- ---- an answer that agrees with what is read

pub agrees_found : (form : Form) (bytes : List ℕ) (r : Result Input ScriptError) →
    Agrees input_lines r (read_input form (lines_of bytes)) →
    IfOk r (λ input. Spells form bytes input)
agrees_found form bytes (Ok input) h = read_is_spelled form bytes input h
agrees_found form bytes (Err e) h = tt

only_memory : (e : ScriptError) (form : Form) (bytes : List ℕ) (t : InputLines) →
    IsRefusal e (read_input form (lines_of bytes)) →
    read_input form (lines_of bytes) ≡ Ok t → IsMemory e
only_memory (Refused line c) form bytes t h e = absurd (cc (h, e))
only_memory Memory form bytes t h e = tt

pub agrees_only : (form : Form) (bytes : List ℕ) (r : Result Input ScriptError) (input : Input) →
    Agrees input_lines r (read_input form (lines_of bytes)) → Spells form bytes input →
    Gives r (λ x. x ≡ input)
agrees_only form bytes (Ok x) input h s =
    one_of_lines x input (ok_same (input_lines x) (input_lines input)
    (sym h ∙ spelled_is_read form bytes input s))
agrees_only form bytes (Err e) input h s =
    only_memory e form bytes (input_lines input) h (spelled_is_read form bytes input s)
