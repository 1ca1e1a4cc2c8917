-- The line's fields are those of one text, and it is said or not.
use Rattle.std.proofs.Common.{◌∙◌, ap, sym}
use Rattle.tk_script.specs.Reading.{named, unless}
use Rattle.tk_script.proofs.SaidLaws.{read_say-form, read_say-said, say_by, ok_say}
use Rattle.tk_script.proofs.say_lines.say_of.Goals as goal

pub returns-in_default : goal.returns-in_default
returns-in_default c =
    sym (read_say-form (named c.args.shape.now) c.args.last c.args.line.now
    (λ p t g text sp st sg e. c.in_default.ensures.only p t g text sp st sg e))

pub returns-in-Some-why_not : goal.returns-in-Some-why_not
returns-in-Some-why_not c =
    let say = say_by c.in-Some.phase c.in-Some.tick c.in-Some.log c.in-Some.text.now in
    sym (read_say-said (named c.args.shape.now) c.args.last c.args.line.now c.in-Some.phase
    c.in-Some.tick c.in-Some.log c.in-Some.text.now c.in-Some.ensures.first c.in-Some.ensures.second
    c.in-Some.ensures.third c.in-Some.ensures.found
    ∙ ap (λ o. unless o say) (sym c.in-Some-why_not.ensures))

pub returns : goal.returns
returns c =
    let say = say_by c.in-Some.phase c.in-Some.tick c.in-Some.log c.in-Some.text.now in
    ap (ok_say c.in-Some.phase c.in-Some.tick c.in-Some.log) c.in_ok-from_slice.ensures
    ∙ sym (read_say-said (named c.args.shape.now) c.args.last c.args.line.now c.in-Some.phase
    c.in-Some.tick c.in-Some.log c.in-Some.text.now c.in-Some.ensures.first c.in-Some.ensures.second
    c.in-Some.ensures.third c.in-Some.ensures.found
    ∙ ap (λ o. unless o say) (sym c.in_default-why_not.ensures))
