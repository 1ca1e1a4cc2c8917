use Rattle.std.proofs.Common.{◌∙◌, map, ap, sym, arith}
use Rattle.std.proofs.lemmas.List.{length-map}
use Rattle.tk_bloom.specs.Packing.{marks_in}
use Rattle.tk_bloom.proofs.Packing.{some, marks-packed, packed-room}
use Rattle.tk_bloom.proofs.marks.Marks.of_counts.Goals as goal

pub invariant_of-result : goal.invariant_of-result
invariant_of-result c =
    let room = packed-room _ _ c.in_ok-numbers.ensures in
    omega (arith, room, length-map c.args.counts.now some)

pub returns : goal.returns
returns c =
    let ns = c.in_ok-numbers.numbers.items in
    ap (λ k. marks_in k ns) (sym (length-map c.args.counts.now some))
    ∙ marks-packed ns (map some c.args.counts.now) c.in_ok-numbers.ensures
