-- A shape's line is the word and its numbers.
use Rattle.std.proofs.Common.{◌≡◌, ◌∙◌, ◌∷◌, codes, map, decimal, Some, ap, sym, subst, refl}
use Rattle.std.specs.List.{AllByRecursion}
use Rattle.tk_script.specs.Grammar.{fields, IsNumber}
use Rattle.tk_script.specs.Reading.{IsRead, named, read_numbers}
use Rattle.tk_script.proofs.CauseLaws.{lacks_by_test}
use Rattle.tk_script.proofs.OptionLaws.{never, if_some}
use Rattle.tk_script.proofs.PartLaws.{numbers_after-none, numbers_after-some}
use Rattle.tk_script.proofs.shape_line.shape_in.Goals as goal

pub returns-in_default : goal.returns-in_default
returns-in_default c =
    ap (read_numbers c.args.format) (numbers_after-none (codes "shape") c.args.line.now
    (λ ns words e. never c.in_ok-numbers.field-0 (λ v. v.items ≡ ns) c.in_default.is
    (c.in_ok-numbers.ensures.only ns words e)))

pub returns : goal.returns
returns c =
    let found = if_some c.in_ok-numbers.field-0
    (λ v. c.args.line.now ≡ fields (codes "shape" ∷ map decimal v.items)) c.in-Some.numbers
    c.in-Some.is c.in_ok-numbers.ensures.found
    in
    let words = if_some c.in_ok-numbers.field-0 (λ v. AllByRecursion IsNumber v.items)
    c.in-Some.numbers c.in-Some.is c.in_ok-numbers.ensures.words
    in
    let numbers = numbers_after-some (codes "shape") c.args.line.now c.in-Some.numbers.items
    (lacks_by_test (codes "shape") refl) words found
    ∙ ap Some (sym c.as_slice.ensures.value)
    in
    subst (λ o. IsRead named c.shape_from.result (read_numbers c.args.format o)) (sym numbers)
    c.shape_from.ensures
