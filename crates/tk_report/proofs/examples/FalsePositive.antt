-- A dummy whose filter position is that of a number, computed.
use Rattle.std.specs.Prelude.{◌≡◌, ℕ, List, [], ◌∷◌, ◌++◌, replicate, codes, None}
use Rattle.std.proofs.Common.{refl}
use Rattle.tk_shape.specs.declared.shape.Shape.{Shape}
use Rattle.tk_script.specs.declared.script.Script.{Script}
use Rattle.tk_shape.specs.Limits.{numbers_in}
use Rattle.tk_shape.proofs.Offers.{shape_of}
use Rattle.tk_script.specs.SoundScript.{IsScript}
use Rattle.tk_schedule.specs.Schedule.{serial_history}
use Rattle.tk_words.specs.Words.{drawn}
use Rattle.tk_report.specs.Report.{report}
use Rattle.tk_report.proofs.Computing.{computing}

abbrev pub shape : Shape
unfolding computing
shape = shape_of (numbers_in 1 (2 ∷ 8 ∷ 4 ∷ 4 ∷ 24 ∷ 64 ∷ 1 ∷ 1 ∷ 2 ∷ 3 ∷ 1 ∷ 1 ∷ [])) refl refl

pub script_sound : IsScript shape None (record { writer = 0; followers = 1 ∷ [] } ∷ []) (record { phase = 2; tick = 1; log = 0; text = codes "hi" } ∷ [])
unfolding computing
script_sound =
    record { keys_counted = refl; tape_fits = refl; roles_counted = refl; roles_sound = refl; says_sound = refl; says_ordered = refl }

abbrev pub script : Script
script = record { shape = shape; keys = None; roles = record { writer = 0; followers = 1 ∷ [] } ∷ []; says = record { phase = 2; tick = 1; log = 0; text = codes "hi" } ∷ []; sound = script_sound }

abbrev pub tape : List ℕ
tape =
    replicate 36 113
    ++ replicate 180 18
    ++ replicate 60 33
    ++ replicate 36 49
    ++ replicate 36 50
    ++ replicate 36 51

pub text : report script (drawn tape) (serial_history shape) ≡ codes "report\norder 1 1 0 1 mark\nreads 1 1 0 0\norder 2 1 0 1 mark\nreads 2 1 1 1\norder 3 1 0 1 mark\nreads 3 1 2 2\nlog 0 1 1\ntext 0 hi\nunsent 0 0\nunsent 1 0\nend\n"
unfolding computing
text = refl
