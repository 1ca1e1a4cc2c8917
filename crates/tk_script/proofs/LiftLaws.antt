-- What a script in format 2 is.
use Rattle.std.proofs.Common.{◌≡◌, ◌≤◌, Bool, true, false, List, Option, Some, refl, sym, ap, ◌∙◌, arith}
use Rattle.std.specs.Prelude.{IsTrue, None}
use Rattle.std.proofs.lemmas.Bool.Decides.{nat_tests}
use Rattle.tk_shape.specs.declared.shape.Shape.{Shape}
use Rattle.tk_shape.specs.Lengths.{tape_len}
use Rattle.tk_shape.specs.Lifting.{lifted_shape}
use Rattle.tk_script.specs.declared.keys.Keys.{Keys}
use Rattle.tk_script.specs.declared.role.Role.{Role}
use Rattle.tk_script.specs.declared.say.Say.{Say}
use Rattle.tk_script.specs.declared.script.Script.{Script}
use Rattle.tk_script.specs.SoundScript.{IsScript, tape_fits}
use Rattle.tk_script.proofs.ScriptLaws.{same_script}
use Rattle.tk_script.specs.Lifting.{fits_lifted, lifted_sound, in_format_2, lifted_where, lifted_script}

-- ---- where the tape of drawn words isn't too long

pub fits-where : (shape : Shape) (keys : Option Keys) → (keys ≡ None → tape_len shape ≤ 2097152) → IsTrue (tape_fits shape keys)
fits-where shape None fits = let short : tape_len shape ≤ 2097152 = fits refl in grind (arith, nat_tests)
fits-where shape (Some keys) fits = refl

lifted_gives : (S : Script) (fits : Bool) (is : fits_lifted S ≡ fits) → (fit : IsTrue (fits_lifted S)) →
    lifted_where S fits is ≡ Some (in_format_2 S fit)
lifted_gives S true is fit = ap Some (same_script (in_format_2 S is) (in_format_2 S fit) refl refl refl refl)
lifted_gives S false wide fit = absurd (differ (sym wide ∙ fit))
  where
    differ : ◌≡◌ {A = Bool} false true → ⊥
    differ e = cc e

-- a script of these parts is the script in format 2
pub lifted-gives : (S T : Script) → IsTrue (fits_lifted S) → T.shape ≡ lifted_shape S.shape → T.keys ≡ S.keys →
    T.roles ≡ S.roles → T.says ≡ S.says → lifted_script S ≡ Some T
unfolding lifted_script
lifted-gives S T fit p q r s =
    lifted_gives S (fits_lifted S) refl fit ∙ ap Some (same_script (in_format_2 S fit) T (sym p) (sym q) (sym r) (sym s))

-- and its parts are sound
pub parts-sound : (S : Script) (shape : Shape) (keys : Option Keys) (roles : List Role) (says : List Say) →
    IsTrue (fits_lifted S) → shape ≡ lifted_shape S.shape → keys ≡ S.keys → roles ≡ S.roles → says ≡ S.says →
    IsScript shape keys roles says
parts-sound S shape keys roles says fit p q r s = rw (p, q, r, s) (lifted_sound S fit)

-- ---- where there is a script in format 2

same : (S T : Script) → ◌≡◌ {A = Option Script} (Some S) (Some T) → T ≡ S
same S T e = cc e

lifted_is : (S T : Script) (fits : Bool) (is : fits_lifted S ≡ fits) → lifted_where S fits is ≡ Some T →
    (fit : IsTrue (fits_lifted S)) × (T ≡ in_format_2 S fit)
lifted_is S T true fit e = (fit, same (in_format_2 S fit) T e)
lifted_is S T false wide e = absurd cc

-- it is the same script with format 2
pub lifted-is : (S T : Script) → lifted_script S ≡ Some T → (fit : IsTrue (fits_lifted S)) × (T ≡ in_format_2 S fit)
unfolding lifted_script
lifted-is S T e = lifted_is S T (fits_lifted S) refl e
