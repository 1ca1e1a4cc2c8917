-- At the end all numbers stand after the word.
use Rattle.std.proofs.Common.{◌≡◌, ◌++◌, ◌∙◌, ap, rules, take}
use Rattle.std.proofs.lemmas.List.{take_all}
use Rattle.tk_script.specs.Printing.{number_fields}
use Rattle.tk_script.proofs.TextOfLaws.{word_numbers}
use Rattle.tk_script.proofs.line_text.push_numbers.Goals as goal

pub returns : goal.returns
returns c =
    let old = c.args.out.now.items in
    let word = c.args.word.now in
    let numbers = c.args.numbers.now in
    let i = c.loop-number.number-index in
    let all : take i numbers ≡ numbers = take_all i numbers (search rules) in
    record {
      ok =
          word_numbers word numbers old
          (c.loop-number.invariant ∙ ap (λ ns. (old ++ word) ++ number_fields ns) all);
    }
