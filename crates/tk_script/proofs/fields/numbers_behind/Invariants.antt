-- What is read so far is words, those at the front of the text, and each takes some of it.
use Rattle.std.proofs.Common.{length}
use Rattle.std.specs.List.{AllByRecursion}
use Rattle.tk_script.specs.Grammar.{IsNumber}
use Rattle.tk_script.proofs.FieldLaws.{Read}
use Rattle.tk_script.proofs.fields.numbers_behind.Given as goal

abbrev pub invariant-numbers : goal.invariant-numbers
invariant-numbers l = record {
  words : AllByRecursion IsNumber l.numbers.items;
  read : Read l.initial.rest l.numbers.items l.rest;
}

abbrev pub decreases-numbers : goal.decreases-numbers
decreases-numbers l = length l.rest
