-- One more line stands after the others.
use Rattle.std.proofs.Common.{◌<◌, length, arith}
use Rattle.tk_script.specs.Grammar.{say_line}
use Rattle.tk_script.proofs.TextOfLaws.{text_of-next}
use Rattle.tk_script.proofs.say_text.push_says.Goals as goal

pub loop-say-preserved : goal.loop-say-preserved
loop-say-preserved c =
    let says = c.args.says.now in
    let within : c.loop-say.say-index < length says = omega arith in
    text_of-next say_line says c.loop-say.say-index c.say-item.result c.args.out.now.items
    within c.say-item.is c.loop-say.invariant c.in_ok-push_say.ensures.ok
