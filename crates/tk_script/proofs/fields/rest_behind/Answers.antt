-- The line begins with the words where its front is them.
use Rattle.std.proofs.Common.{◌≡◌, length, take, rules}
use Rattle.tk_script.proofs.TextLaws.{front_is, behind_is}
use Rattle.tk_script.proofs.fields.rest_behind.Goals as goal

pub returns-clause-found : goal.returns-clause-found
returns-clause-found c =
    let front : take (length c.args.words.now) c.args.line.now ≡ c.args.words.now = search rules in
    behind_is c.args.line.now c.args.words.now front

pub returns-then-ne-clause-only : goal.returns-then-ne-clause-only
returns-then-ne-clause-only c rest e =
    let other : take (length c.args.words.now) c.args.line.now ≡ c.args.words.now →
    ⊥ = search rules in
    other (front_is c.args.line.now c.args.words.now rest e)
