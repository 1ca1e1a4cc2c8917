-- The sections of a script are read one by one.
use Rattle.std.proofs.Common.{refl, rules}
use Rattle.tk_script.specs.Reading.{read_script}
use Rattle.tk_script.specs.Stands.{stands}
use Rattle.tk_script.proofs.AnswerLaws.{in_turn, then_said}
use Rattle.tk_script.proofs.SpelledLaws.{script_sound}
use Rattle.tk_script.proofs.section.script_of.Goals as goal

pub returns-in_err-shape : goal.returns-in_err-shape
unfolding read_script
returns-in_err-shape c = search (rules, in_turn)

pub returns-in_err-roles : goal.returns-in_err-roles
unfolding read_script
returns-in_err-roles c = search (rules, in_turn)

pub returns-in_err-keys : goal.returns-in_err-keys
unfolding read_script
returns-in_err-keys c = search (rules, in_turn)

pub returns-in_err-says : goal.returns-in_err-says
unfolding read_script
returns-in_err-says c = search (rules, in_turn)

pub returns : goal.returns
unfolding read_script
returns c = search (rules, in_turn)

pub invariant_of-script : goal.invariant_of-script
unfolding read_script
invariant_of-script c = record {
  sound = script_sound c.args.kinds (stands c.args.start) (stands c.in_ok-says.rest)
      c.in_ok-shape.shape c.in_ok-keys.keys c.in_ok-roles.roles c.in_ok-says.says
      (then_said _ c.in_ok-shape.ensures (then_said _ c.in_ok-roles.ensures
      (then_said _ c.in_ok-keys.ensures (then_said _ c.in_ok-says.ensures refl))));
}
