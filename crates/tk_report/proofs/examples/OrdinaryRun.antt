-- The ordinary run, computed.
use Rattle.std.specs.Prelude.{◌≡◌, ℕ, List, [], ◌∷◌, ◌++◌, replicate, codes, None}
use Rattle.std.proofs.Common.{refl}
use Rattle.tk_shape.specs.declared.shape.Shape.{Shape}
use Rattle.tk_script.specs.declared.script.Script.{Script}
use Rattle.tk_schedule.specs.declared.history.History.{History}
use Rattle.tk_schedule.specs.declared.item.Item.TheVariants.{Client, Publish}
use Rattle.tk_shape.specs.Limits.{numbers_in}
use Rattle.tk_shape.proofs.Offers.{shape_of}
use Rattle.tk_script.specs.SoundScript.{IsScript}
use Rattle.tk_schedule.specs.Schedule.{serial_history}
use Rattle.tk_words.specs.Words.{drawn}
use Rattle.tk_report.specs.Report.{report}
use Rattle.tk_report.proofs.Computing.{computing}

abbrev pub shape : Shape
unfolding computing
shape = shape_of (numbers_in 1 (2 ∷ 8 ∷ 4 ∷ 4 ∷ 24 ∷ 64 ∷ 1 ∷ 0 ∷ 2 ∷ 2 ∷ 1 ∷ 1 ∷ [])) refl refl

pub script_sound : IsScript shape None (record { writer = 0; followers = 1 ∷ [] } ∷ []) (record { phase = 1; tick = 1; log = 0; text = codes "hi" } ∷ [])
unfolding computing
script_sound =
    record { keys_counted = refl; tape_fits = refl; roles_counted = refl; roles_sound = refl; says_sound = refl; says_ordered = refl }

abbrev pub script : Script
script = record { shape = shape; keys = None; roles = record { writer = 0; followers = 1 ∷ [] } ∷ []; says = record { phase = 1; tick = 1; log = 0; text = codes "hi" } ∷ []; sound = script_sound }

abbrev pub tape : List ℕ
tape =
    replicate 36 17
    ++ replicate 36 18
    ++ replicate 36 19
    ++ replicate 36 20
    ++ replicate 10 33
    ++ replicate 10 34
    ++ replicate 10 35
    ++ replicate 10 36
    ++ replicate 36 49
    ++ replicate 36 50

pub text : report script (drawn tape) (serial_history shape) ≡ codes "report\norder 1 1 0 1 mark\nreads 1 1 0 0\norder 2 1 0 1 mark\nreads 2 1 1 1\nlog 0 1 1\ntext 0 hi\nunsent 0 0\nunsent 1 0\nend\n"
unfolding computing
text = refl

abbrev pub mixed : History
mixed =
    record { order = Client 0 ∷ Publish ∷ Client 1 ∷ []; epochs = 0 ∷ 1 ∷ [] }
    ∷ record { order = Client 1 ∷ Client 0 ∷ Publish ∷ []; epochs = 1 ∷ 2 ∷ [] } ∷ []

pub mixed_epochs : report script (drawn tape) mixed ≡ codes "report\norder 1 1 0 mark 1\nreads 1 1 0 1\norder 2 1 1 0 mark\nreads 2 1 1 2\nlog 0 1 1\ntext 0 hi\nunsent 0 0\nunsent 1 0\nend\n"
unfolding computing
mixed_epochs = refl

pub silent_sound : IsScript shape None (record { writer = 0; followers = 1 ∷ [] } ∷ []) ([])
unfolding computing
silent_sound =
    record { keys_counted = refl; tape_fits = refl; roles_counted = refl; roles_sound = refl; says_sound = refl; says_ordered = refl }

abbrev pub silent : Script
silent = record { shape = shape; keys = None; roles = record { writer = 0; followers = 1 ∷ [] } ∷ []; says = []; sound = silent_sound }

pub zero_tape : report silent (drawn (replicate 256 0)) (serial_history shape) ≡ codes "report\norder 1 1 0 1 mark\nreads 1 1 0 0\norder 2 1 0 1 mark\nreads 2 1 1 1\nlog 0 1 1\ntext 0 \nunsent 0 0\nunsent 1 0\nend\n"
unfolding computing
zero_tape = refl

pub late_sound : IsScript shape None (record { writer = 0; followers = 1 ∷ [] } ∷ []) (record { phase = 2; tick = 1; log = 0; text = codes "a" } ∷ record { phase = 2; tick = 1; log = 0; text = codes "b" } ∷ [])
unfolding computing
late_sound =
    record { keys_counted = refl; tape_fits = refl; roles_counted = refl; roles_sound = refl; says_sound = refl; says_ordered = refl }

abbrev pub late : Script
late = record { shape = shape; keys = None; roles = record { writer = 0; followers = 1 ∷ [] } ∷ []; says = record { phase = 2; tick = 1; log = 0; text = codes "a" } ∷ record { phase = 2; tick = 1; log = 0; text = codes "b" } ∷ []; sound = late_sound }

pub unsent : report late (drawn tape) (serial_history shape) ≡ codes "report\norder 1 1 0 1 mark\nreads 1 1 0 0\norder 2 1 0 1 mark\nreads 2 1 1 1\nlog 0 1 0\nunsent 0 1\nunsent 1 0\nend\n"
unfolding computing
unsent = refl

pub longest_sound : IsScript shape None (record { writer = 0; followers = 1 ∷ [] } ∷ []) (record { phase = 1; tick = 1; log = 0; text = codes "abcdef" } ∷ [])
unfolding computing
longest_sound =
    record { keys_counted = refl; tape_fits = refl; roles_counted = refl; roles_sound = refl; says_sound = refl; says_ordered = refl }

abbrev pub longest : Script
longest = record { shape = shape; keys = None; roles = record { writer = 0; followers = 1 ∷ [] } ∷ []; says = record { phase = 1; tick = 1; log = 0; text = codes "abcdef" } ∷ []; sound = longest_sound }

pub longest_text : report longest (drawn tape) (serial_history shape) ≡ codes "report\norder 1 1 0 1 mark\nreads 1 1 0 0\norder 2 1 0 1 mark\nreads 2 1 1 1\nlog 0 1 1\ntext 0 abcdef\nunsent 0 0\nunsent 1 0\nend\n"
unfolding computing
longest_text = refl
