use Rattle.std.proofs.Common.{ap}
use Rattle.tk_table.specs.Inside.{Laid}
use Rattle.tk_table.proofs.Standing.{stands_for_none, kept_none}
use Rattle.tk_table.proofs.table.Table.open.Goals as goal

pub returns-clause-stands : goal.returns-clause-stands
returns-clause-stands c =
    stands_for_none c.args.shape.now c.in_ok-open.field-0.slots c.in_ok-new.field-0.positions
    (ap (λ (g : Laid). g.slots) c.in_ok-open.ensures) c.in_ok-new.ensures.positions

pub invariant_of-result : goal.invariant_of-result
invariant_of-result c =
    kept_none c.args.shape.now c.in_ok-open.field-0.shape c.in_ok-scratch_for.field-0.buckets
    c.in_ok-open.field-0.slots c.in_ok-new.field-0
    (ap (λ (g : Laid). g.shape) c.in_ok-open.ensures) c.in_ok-scratch_for.ensures
    (ap (λ (g : Laid). g.slots) c.in_ok-open.ensures) c.in_ok-new.ensures.room
    c.in_ok-new.ensures.positions c.in_ok-new.ensures.pairs
