-- A text that spells a keyed script spells no other, and isn't refused.
use Rattle.std.proofs.Common.{ap, subst}
use Rattle.tk_script.specs.declared.error.ScriptError.{ScriptError}
use Rattle.tk_script.specs.declared.input.Input.{Input}
use Rattle.tk_script.specs.Answer.{IsMemory}
use Rattle.tk_member.proofs.setup.script_of.Goals as goal

pub returns-in-Ok-clause-only : goal.returns-in-Ok-clause-only
returns-in-Ok-clause-only c = λ input spelled.
    ap (λ (i : Input). i.first) (c.in-Ok.ensures.only input spelled)

pub returns-in-Err-Line-clause-refused : goal.returns-in-Err-Line-clause-refused
returns-in-Err-Line-clause-refused c = λ input spelled.
    absurd
    (subst (λ (e : ScriptError). IsMemory e) c.in-Err-Line.field-0-is
    (c.in-Err-Line.ensures.only input spelled))
