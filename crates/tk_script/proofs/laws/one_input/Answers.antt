-- The lines say each part in turn.
use Rattle.tk_script.proofs.InputLaws.{gives_inputs, one_spelled, reads_what_is_spelled}
use Rattle.tk_script.proofs.laws.one_input.Goals as goal

pub returns : goal.returns
returns c = record { only = one_spelled; read = reads_what_is_spelled; given = gives_inputs }
