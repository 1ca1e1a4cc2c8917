-- The change of drawn words between two scripts, computed.
use Rattle.std.specs.Prelude.{◌≡◌, ℕ, List, [], ◌∷◌, ◌++◌, replicate, codes, None}
use Rattle.std.proofs.Common.{refl, lit≤}
use Rattle.tk_shape.specs.declared.shape.Shape.{Shape}
use Rattle.tk_script.specs.declared.script.Script.{Script}
use Rattle.tk_script.specs.declared.role.Role.{Role}
use Rattle.tk_script.specs.declared.say.Say.{Say}
use Rattle.tk_shape.specs.Limits.{numbers_in}
use Rattle.tk_shape.proofs.Offers.{shape_of}
use Rattle.tk_script.specs.SoundScript.{IsScript}
use Rattle.tk_schedule.specs.Schedule.{serial_history}
use Rattle.tk_words.specs.Words.{drawn}
use Rattle.tk_report.specs.Exchange.{view}
use Rattle.tk_privacy.proofs.Computing.{computing}
use Rattle.tk_schedule.proofs.Offers.{serial-IsLegal}
use Rattle.tk_privacy.specs.Privacy.{mirror, normal, cells_view}
use Rattle.tk_privacy.specs.Laws.{AreMirrored}

abbrev pub shape : Shape
unfolding computing
shape = shape_of (numbers_in 1 (3 ∷ 8 ∷ 4 ∷ 4 ∷ 24 ∷ 64 ∷ 1 ∷ 0 ∷ 2 ∷ 1 ∷ 1 ∷ 1 ∷ [])) refl refl

abbrev pub roles : List Role
roles = record { writer = 0; followers = 1 ∷ [] } ∷ []

abbrev pub one_text : List Say
one_text = record { phase = 1; tick = 1; log = 0; text = codes "hi" } ∷ []

pub script_a_sound : IsScript shape None roles one_text
unfolding computing
script_a_sound =
    record {
      keys_counted = refl;
      tape_fits = refl;
      roles_counted = refl;
      roles_sound = refl;
      says_sound = refl;
      says_ordered = refl;
    }

-- a script with a text
abbrev pub script_a : Script
script_a =
    record { shape = shape; keys = None; roles = roles; says = one_text; sound = script_a_sound }

pub script_b_sound : IsScript shape None roles []
unfolding computing
script_b_sound =
    record {
      keys_counted = refl;
      tape_fits = refl;
      roles_counted = refl;
      roles_sound = refl;
      says_sound = refl;
      says_ordered = refl;
    }

-- and one without
abbrev pub script_b : Script
script_b =
    record { shape = shape; keys = None; roles = roles; says = []; sound = script_b_sound }

abbrev pub tape : List ℕ
tape =
    replicate 36 21
    ++ replicate 36 18
    ++ replicate 12 33
    ++ (0 ∷ 0 ∷ 0 ∷ 0 ∷ 0 ∷ 0 ∷ 0 ∷ 0 ∷ 160 ∷ 11 ∷ 192 ∷ 13 ∷ [])
    ++ replicate 36 49

-- the tape with these vectors in the read cell of the client that follows
abbrev pub mirrored : List ℕ → List ℕ
mirrored vectors =
    replicate 13 49 ++ (51 ∷ 89 ∷ 88 ∷ replicate 20 49)
    ++ replicate 36 18
    ++ replicate 12 33
    ++ (replicate 8 0 ++ vectors)
    ++ replicate 36 21

abbrev pub t1 : List ℕ
t1 = mirrored (130 ∷ 11 ∷ 226 ∷ 13 ∷ [])

pub hidden_1 : mirror script_a script_b (serial_history shape) 1 tape ≡ t1
unfolding computing
hidden_1 = refl

pub hidden_2 : mirror script_a script_b (serial_history shape) 2 tape
    ≡ mirrored (160 ∷ 41 ∷ 192 ∷ 47 ∷ [])
unfolding computing
hidden_2 = refl

pub hidden_3 : mirror script_a script_b (serial_history shape) 3 tape
    ≡ mirrored (160 ∷ 11 ∷ 192 ∷ 13 ∷ [])
unfolding computing
hidden_3 = refl

pub back : mirror script_b script_a (serial_history shape) 1 t1 ≡ tape
unfolding computing
back = refl

pub same_view_2 : view script_a (drawn tape) (serial_history shape) 2
    ≡ view script_b (drawn t1) (serial_history shape) 2
unfolding computing
same_view_2 = refl

pub cells_view_2 : view script_a (drawn tape) (serial_history shape) 2
    ≡ cells_view shape (serial_history shape) 1 (normal script_a (serial_history shape) 1 tape) 2
unfolding computing
cells_view_2 = refl

pub same_view_3 : view script_a (drawn tape) (serial_history shape) 3
    ≡ view script_b (drawn t1) (serial_history shape) 3
unfolding computing
same_view_3 = refl

pub cells_view_3 : view script_a (drawn tape) (serial_history shape) 3
    ≡ cells_view shape (serial_history shape) 1 (normal script_a (serial_history shape) 1 tape) 3
unfolding computing
cells_view_3 = refl

-- the premises of the laws are met
pub premises : AreMirrored script_a script_b (serial_history shape) 1 tape
unfolding computing
premises =
    record {
      one_shape = refl;
      legal = serial-IsLegal shape;
      hidden_low = lit≤ tt;
      hidden_high = lit≤ tt;
      tape = refl;
    }
