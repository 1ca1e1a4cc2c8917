-- Three texts of which the window keeps one, computed.
use Rattle.std.specs.Prelude.{◌≡◌, ℕ, List, [], ◌∷◌, ◌++◌, replicate, codes, None}
use Rattle.std.proofs.Common.{refl}
use Rattle.tk_shape.specs.declared.shape.Shape.{Shape}
use Rattle.tk_script.specs.declared.script.Script.{Script}
use Rattle.tk_shape.specs.Limits.{numbers_in}
use Rattle.tk_shape.proofs.Offers.{shape_of}
use Rattle.tk_script.specs.SoundScript.{IsScript}
use Rattle.tk_schedule.specs.Schedule.{serial_history}
use Rattle.tk_words.specs.Words.{drawn}
use Rattle.tk_report.specs.Report.{report}
use Rattle.tk_report.proofs.Computing.{computing}

abbrev pub shape : Shape
unfolding computing
shape = shape_of (numbers_in 1 (2 ∷ 8 ∷ 1 ∷ 1 ∷ 24 ∷ 64 ∷ 1 ∷ 4 ∷ 2 ∷ 2 ∷ 3 ∷ 1 ∷ [])) refl refl

pub script_sound : IsScript shape None (record { writer = 1; followers = 0 ∷ [] } ∷ []) (record { phase = 1; tick = 1; log = 0; text = codes "a" } ∷ record { phase = 1; tick = 1; log = 0; text = codes "b" } ∷ record { phase = 1; tick = 1; log = 0; text = codes "c" } ∷ [])
unfolding computing
script_sound =
    record { keys_counted = refl; tape_fits = refl; roles_counted = refl; roles_sound = refl; says_sound = refl; says_ordered = refl }

abbrev pub script : Script
script = record { shape = shape; keys = None; roles = record { writer = 1; followers = 0 ∷ [] } ∷ []; says = record { phase = 1; tick = 1; log = 0; text = codes "a" } ∷ record { phase = 1; tick = 1; log = 0; text = codes "b" } ∷ record { phase = 1; tick = 1; log = 0; text = codes "c" } ∷ []; sound = script_sound }

abbrev pub tape : List ℕ
tape =
    replicate 432 17
    ++ replicate 120 33
    ++ replicate 36 48
    ++ replicate 36 49
    ++ replicate 36 50
    ++ replicate 36 51
    ++ replicate 36 52
    ++ replicate 36 53

pub text : report script (drawn tape) (serial_history shape) ≡ codes "report\norder 1 1 0 1\norder 1 2 0 1\norder 1 3 0 1 mark\nreads 1 3 0 0\norder 2 1 0 1\norder 2 2 0 1\norder 2 3 0 1 mark\nreads 2 3 1 1\nlog 0 0 3\nabsent 0\nabsent 1\ntext 2 c\nunsent 0 0\nunsent 1 0\nend\n"
unfolding computing
text = refl
