-- Twelve numbers, each read once, are the list of them.
use Rattle.std.proofs.Common.{sym, rules, ◌≡◌, length}
use Rattle.std.proofs.lemmas.Slice.Eq.{text_from_reads}
use Rattle.tk_shape.specs.Limits.{numbers_in}
use Rattle.tk_shape.proofs.Between.{between-from}
use Rattle.tk_shape.proofs.InRange.{in_range}
use Rattle.tk_shape.proofs.shape.Shape.of.Goals as goal

pub returns-clause-found : goal.returns-clause-found
returns-clause-found c =
    let twelve : length c.args.numbers ≡ 12 = search rules in
    sym (text_from_reads c.args.numbers _ twelve (search rules))

-- Numbers that keep to the table of limits are in range.
pub invariant_of-result : goal.invariant_of-result
invariant_of-result c =
    let known = between-from 1 2 c.args.format c.requires.low c.requires.high in
    record { in_range = in_range (numbers_in c.args.format c.args.numbers) known c.in_ok-keep.ensures.kept }
