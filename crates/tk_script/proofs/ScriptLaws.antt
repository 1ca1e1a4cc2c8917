-- The lines of a script and of its tape.
use Rattle.std.proofs.Common.{◌≡◌, List, [], ◌∷◌, ◌++◌, map, codes, Bool, true, false, Option, Some, None, refl, ap, sym, ◌∙◌, subst, append_assoc}
use Rattle.std.specs.Prelude.{IsTrue, is_some}
use Rattle.std.proofs.lemmas.Bool.{leb-true, le-leb}
use Rattle.std.proofs.Math.Nat.{ℕ_set}
use Rattle.std.proofs.Math.Bool.{Bool-set}
use mathlib.Core.HLevel.{is_prop→PathP}
use Rattle.tk_shape.specs.declared.shape.Shape.{Shape}
use Rattle.tk_shape.specs.Lengths.{tape_len}
use Rattle.tk_script.specs.declared.script.Script.{Script}
use Rattle.tk_script.specs.declared.keys.Keys.{Keys}
use Rattle.tk_script.specs.declared.input.RawTape.{RawTape}
use Rattle.tk_script.specs.declared.input.Input.{Input}
use Rattle.tk_script.specs.Grammar.{Line, format_line, shape_line, kind_line, role_line, say_line, SpellsKeys, BeginsWithScript, TapeFor}
use Rattle.tk_script.proofs.KeyLines.{kind_words, MayBeOfKind}
use Rattle.tk_script.specs.SoundScript.{IsScript, tape_fits}

-- a script's parts make it
pub same_script : (S T : Script) → S.shape ≡ T.shape → S.keys ≡ T.keys → S.roles ≡ T.roles →
    S.says ≡ T.says → S ≡ T
same_script S T p k r y = λ i. record {
  shape = p i;
  keys = k i;
  roles = r i;
  says = y i;
  sound = is_prop→PathP (λ j. IsScript (p j) (k j) (r j) (y j)) (λ j. hlevel (ℕ_set, Bool-set))
      S.sound T.sound i;
}

pub same_input : (x y : Input) → x.first ≡ y.first → x.second ≡ y.second →
    x.history ≡ y.history → x.replies ≡ y.replies → x.tape ≡ y.tape → x ≡ y
same_input x y a b h r t = λ i. record {
  first = a i;
  second = b i;
  history = h i;
  replies = r i;
  tape = t i;
}

-- what stands after the first three lines of a script
abbrev pub behind_head : Script → List Line → List Line → List Line
behind_head S key_lines rest =
    map role_line S.roles ++ (key_lines ++ (map say_line S.says ++ codes "end" ∷ rest))

-- four lists, joined from their end
pub from_end : {A : Type 0} (a b c d : List A) → a ++ b ++ c ++ d ≡ a ++ (b ++ (c ++ d))
from_end a b c d = append_assoc (a ++ b) c d ∙ append_assoc a b (c ++ d)

kind_is : (keys : Option Keys) → kind_line keys ≡ kind_words (is_some keys)
kind_is None = refl
kind_is (Some keys) = refl

-- the lines of a script, one after the other
pub lines_are : (lines : List Line) (S : Script) (rest : List Line)
    (s : BeginsWithScript lines S rest) →
    lines ≡ format_line S.shape ∷ shape_line S.shape ∷ kind_words (is_some S.keys)
    ∷ behind_head S s.key_lines rest
lines_are lines S rest s =
    s.whole
    ∙ ap (λ k. format_line S.shape ∷ shape_line S.shape ∷ k
    ∷ (map role_line S.roles ++ s.key_lines ++ map say_line S.says ++ codes "end" ∷ rest))
    (kind_is S.keys)
    ∙ ap (λ t. format_line S.shape ∷ shape_line S.shape ∷ kind_words (is_some S.keys) ∷ t)
    (from_end (map role_line S.roles) s.key_lines (map say_line S.says) (codes "end" ∷ rest))

-- lines that are a script's are read so
pub script_begins : (lines : List Line) (S : Script) (key_lines rest : List Line) →
    SpellsKeys key_lines S.keys →
    lines ≡ format_line S.shape ∷ shape_line S.shape ∷ kind_words (is_some S.keys)
    ∷ behind_head S key_lines rest →
    BeginsWithScript lines S rest
script_begins lines S key_lines rest spelled whole = record {
  key_lines = key_lines;
  keys = spelled;
  whole = whole
      ∙ ap (λ t. format_line S.shape ∷ shape_line S.shape ∷ kind_words (is_some S.keys) ∷ t)
      (sym (from_end (map role_line S.roles) key_lines (map say_line S.says) (codes "end" ∷ rest)))
      ∙ ap (λ k. format_line S.shape ∷ shape_line S.shape ∷ k
      ∷ (map role_line S.roles ++ key_lines ++ map say_line S.says ++ codes "end" ∷ rest))
      (sym (kind_is S.keys));
}

-- a script's tape is not too long for its kind
pub may_be : (shape : Shape) (keys : Option Keys) → IsTrue (tape_fits shape keys) →
    MayBeOfKind shape (is_some keys)
may_be shape None fits = leb-true (tape_len shape) 2097152 fits
may_be shape (Some keys) fits = tt

pub tape_fits_kind : (shape : Shape) (keys : Option Keys) (keyed : Bool) → is_some keys ≡ keyed →
    MayBeOfKind shape keyed → IsTrue (tape_fits shape keys)
tape_fits_kind shape None keyed kind may =
    le-leb (tape_len shape) 2097152 (subst (MayBeOfKind shape) (sym kind) may)
tape_fits_kind shape (Some keys) keyed kind may = refl

-- ---- the tape of an input

-- a keyed script has none
pub tape_of_keyed : (shape : Shape) (keys : Option Keys) (lines : List Line) →
    is_some keys ≡ true → lines ≡ [] → TapeFor shape keys lines None
tape_of_keyed shape None lines keyed none = absurd (cc keyed)
tape_of_keyed shape (Some keys) lines keyed none = (none, refl)

-- a drawn script has one
pub tape_of_drawn : (shape : Shape) (keys : Option Keys) (lines : List Line) (tape : RawTape) →
    is_some keys ≡ false → TapeFor shape None lines (Some tape) →
    TapeFor shape keys lines (Some tape)
tape_of_drawn shape None lines tape drawn h = h
tape_of_drawn shape (Some keys) lines tape drawn h = absurd (cc drawn)
