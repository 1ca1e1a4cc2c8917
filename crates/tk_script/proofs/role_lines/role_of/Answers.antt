-- A role's line is the word and its numbers.
use Rattle.std.proofs.Common.{◌≡◌, ◌∙◌, ◌∷◌, codes, map, decimal, Some, ap, sym, subst, refl}
use Rattle.std.specs.Prelude.{IfOk}
use Rattle.std.specs.List.{AllByRecursion}
use Rattle.tk_script.specs.Grammar.{fields, IsNumber}
use Rattle.tk_script.specs.Reading.{named, read_clients}
use Rattle.tk_script.proofs.CauseLaws.{lacks_by_test}
use Rattle.tk_script.proofs.OptionLaws.{never, if_some}
use Rattle.tk_script.proofs.PartLaws.{numbers_after-none, numbers_after-some}
use Rattle.tk_script.proofs.role_lines.role_of.Goals as goal

pub returns-in_default : goal.returns-in_default
returns-in_default c =
    sym (ap (read_clients (named c.args.shape.now))
    (numbers_after-none (codes "log") c.args.line.now
    (λ ns words e. never c.in_ok-numbers.field-0 (λ v. v.items ≡ ns) c.in_default.is
    (c.in_ok-numbers.ensures.only ns words e))))

pub returns : goal.returns
returns c =
    let found = if_some c.in_ok-numbers.field-0
    (λ v. c.args.line.now ≡ fields (codes "log" ∷ map decimal v.items)) c.in-Some.numbers
    c.in-Some.is c.in_ok-numbers.ensures.found
    in
    let words = if_some c.in_ok-numbers.field-0 (λ v. AllByRecursion IsNumber v.items)
    c.in-Some.numbers c.in-Some.is c.in_ok-numbers.ensures.words
    in
    let numbers = numbers_after-some (codes "log") c.args.line.now c.in-Some.numbers.items
    (lacks_by_test (codes "log") refl) words found
    ∙ ap Some (sym c.as_slice.ensures.value)
    in
    subst (λ o. IfOk c.role_from.result (λ r. r ≡ read_clients (named c.args.shape.now) o))
    (sym numbers) c.role_from.ensures
