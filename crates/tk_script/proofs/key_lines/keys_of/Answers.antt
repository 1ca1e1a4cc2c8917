-- The handles are read, and the seeds after them.
use Rattle.std.proofs.Common.{◌≡◌, refl, false, rules}
use Rattle.tk_script.specs.Reading.{read_keys}
use Rattle.tk_script.proofs.AnswerLaws.{in_turn}
use Rattle.tk_script.proofs.key_lines.keys_of.Goals as goal

pub returns-then-not-keyed : goal.returns-then-not-keyed
unfolding read_keys
returns-then-not-keyed c =
    let drawn : c.args.keyed ≡ false = search rules in
    rw drawn refl

pub returns-in_err-handles : goal.returns-in_err-handles
unfolding read_keys
returns-in_err-handles c = search (rules, in_turn)

pub returns-in_err-seeds : goal.returns-in_err-seeds
unfolding read_keys
returns-in_err-seeds c = search (rules, in_turn)

pub returns : goal.returns
unfolding read_keys
returns c = search (rules, in_turn)
