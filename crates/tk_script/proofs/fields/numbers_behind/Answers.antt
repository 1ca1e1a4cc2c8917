-- What is read so far is the front of whatever numbers the line spells.
use Rattle.std.proofs.Common.{◌≡◌, ◌<◌, ◌∙◌, ◌++◌, ◌∷◌, [], length, ap, rules, sym}
use Rattle.tk_script.proofs.FieldLaws.{spaced, fields-spaced, words-push, Read-more, Read-stuck, Read-done, Read-whole}
use Rattle.tk_script.proofs.fields.numbers_behind.Goals as goal

pub returns-in_default-clause-only : goal.returns-in_default-clause-only
returns-in_default-clause-only c ns words e =
    c.in_default.ensures.only (spaced ns) (e ∙ fields-spaced c.args.word.now ns)

pub returns-in_default-next_number-clause-only : goal.returns-in_default-next_number-clause-only
returns-in_default-next_number-clause-only c ns words e =
    let text = c.in-Some.ensures.only (spaced ns) (e ∙ fields-spaced c.args.word.now ns) in
    let some : 0 < length c.numbers.rest.now = search rules in
    Read-stuck c.in-Some.text.now c.numbers.numbers.items c.numbers.rest.now
    c.numbers.invariant.read some c.in_default-next_number.ensures.only ns words text

pub numbers-preserved : goal.numbers-preserved
numbers-preserved c =
    let pushed : c.push.new.self.items ≡ c.numbers.numbers.items ++ c.in-Some-next_number.number ∷
    [] = search rules in
    record {
      words = rw pushed (words-push c.numbers.numbers.items c.in-Some-next_number.number
          c.numbers.invariant.words c.in-Some-next_number.ensures.small);
      read = rw pushed (Read-more c.in-Some.text.now c.numbers.numbers.items c.numbers.rest.now
          c.in-Some-next_number.number c.in-Some-next_number.behind.now
          c.numbers.invariant.read c.in-Some-next_number.ensures.found
          c.in-Some-next_number.ensures.only);
    }

pub returns-clause-found : goal.returns-clause-found
returns-clause-found c =
    let none : length c.numbers.rest.now ≡ 0 = search rules in
    let text = Read-whole c.in-Some.text.now c.numbers.numbers.items c.numbers.rest.now
    c.numbers.invariant.read none in
    c.in-Some.ensures.found ∙ ap (λ t. c.args.word.now ++ t) text
    ∙ sym (fields-spaced c.args.word.now c.numbers.numbers.items)

pub returns-clause-only : goal.returns-clause-only
returns-clause-only c ns words e =
    let none : length c.numbers.rest.now ≡ 0 = search rules in
    let text = c.in-Some.ensures.only (spaced ns) (e ∙ fields-spaced c.args.word.now ns) in
    Read-done c.in-Some.text.now c.numbers.numbers.items c.numbers.rest.now
    c.numbers.invariant.read none ns words text
