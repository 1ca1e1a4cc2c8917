use Rattle.std.proofs.Common.{◌∙◌, ℕ, ◌==◌, ◌/◌, ◌^◌, ◌%◌, bit_and, ap, sym, arith}
use Rattle.std.proofs.lemmas.Bool.{le-ltb}
use Rattle.std.proofs.lemmas.List.{get_or_default}
use Rattle.tk_bloom.proofs.Packing.{digit-mark, no-mark}
use Rattle.tk_bloom.proofs.marks.Marks.has.Goals as goal

pub returns-then-place-self : goal.returns-then-place-self
returns-then-place-self c =
    let ns = c.self.inside.numbers.items in
    let place = c.args.place in
    let number = c.index.result.now in
    let there =
    c.index.ensures
    ∙ get_or_default ns (place / 64) number 0 (omega (arith, c.if-place-self.true, c.self.invariant))
    in
    rw (← c.self.view_is)
    (ap (λ (n : ℕ). bit_and (n / 2 ^ (place % 64)) 1 == 1) there
    ∙ digit-mark c.self.inside.count place ns c.if-place-self.true)

pub returns-else-place-self : goal.returns-else-place-self
returns-else-place-self c =
    let count = c.self.inside.count in
    let past = c.if-place-self.false in
    rw (← c.self.view_is)
    (le-ltb c.args.place count past ∙ sym (no-mark count c.args.place c.self.inside.numbers.items past))
