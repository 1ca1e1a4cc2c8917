-- A script in format 2.
use Rattle.std.proofs.Common.{refl}
use Rattle.std.specs.Prelude.{◌≡◌, Bool, true, false, IsTrue, Option, Some, None}
use Rattle.tk_shape.specs.Lifting.{lifted_shape}
use Rattle.tk_script.specs.declared.script.Script.{Script}
use Rattle.tk_script.specs.SoundScript.{IsScript, tape_fits}

-- the tape of drawn words isn't too long in format 2
abbrev pub fits_lifted : Script → Bool
fits_lifted S = tape_fits (lifted_shape S.shape) S.keys

-- then what holds of the script holds of it in format 2
pub lifted_sound : (S : Script) → IsTrue (fits_lifted S) → IsScript (lifted_shape S.shape) S.keys S.roles S.says
lifted_sound S fits =
    record {
      keys_counted = S.sound.keys_counted;
      tape_fits = fits;
      roles_counted = S.sound.roles_counted;
      roles_sound = S.sound.roles_sound;
      says_sound = S.sound.says_sound;
      says_ordered = S.sound.says_ordered;
    }

-- the same script with format 2
abbrev pub in_format_2 : (S : Script) → IsTrue (fits_lifted S) → Script
in_format_2 S fits = record S { shape = lifted_shape S.shape; sound = lifted_sound S fits }

abbrev pub lifted_where : (S : Script) (fits : Bool) → fits_lifted S ≡ fits → Option Script
lifted_where S true fits = Some (in_format_2 S fits)
lifted_where S false wide = None

-- the script in format 2, unless its tape were too long there
unfoldable pub lifted_script : Script → Option Script
lifted_script S = lifted_where S (fits_lifted S) refl
