use Rattle.std.proofs.Common.{inl, inr, arith, subst}
use Rattle.std.specs.Prelude.{Ok, Err}
use Rattle.std.specs.Ordering.{nat_cmp}
use Rattle.std.specs.List.Sorted.{IsBinarySearchResult}
use Rattle.std.proofs.lemmas.Bool.{cases_lt}
use Rattle.std.proofs.lemmas.List.Sorted.{searched}
use Rattle.tk_table.proofs.Learning.{ascending-sorted, learned_found, learned_none}
use Rattle.tk_table.proofs.learn.learn.Goals as goal

pub returns-in-Ok : goal.returns-in-Ok
returns-in-Ok c =
    let found =
    searched c.args.positions.now c.args.position (Ok c.in-Ok.i) c.in-Ok.ensures.position
    (ascending-sorted 1 c.args.positions.now c.requires.ascending) in
    learned_found 1 c.args.positions.now c.args.pairs.now.items c.in-Ok.i c.args.position c.args.pair
    c.requires.ascending c.requires.beside found.0 found.1

pub returns-in_default : goal.returns-in_default
returns-in_default c =
    let x = c.args.position in
    let xs = c.args.positions.now in
    let at = c.in_default.field-0 in
    let apart =
    searched xs x (Err at)
    (subst (λ r. IsBinarySearchResult (λ y. nat_cmp y x) xs r) c.in_default.is c.binary_search.ensures.position)
    (ascending-sorted 1 xs c.requires.ascending) in
    learned_none xs c.args.pairs.now.items x c.args.pair c.requires.beside (λ k low e.
    elim (cases_lt k at) [
      | inl before ↦ let less = apart.1 k before in omega arith
      | inr behind ↦ let more = apart.2 k behind low in omega arith
    ])
