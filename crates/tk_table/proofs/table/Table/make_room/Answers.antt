use Rattle.std.proofs.Common.{ap}
use Rattle.tk_table.specs.Inside.{Laid}
use Rattle.tk_table.proofs.Standing.{oldest_pair, oldest_own, kept_without}
use Rattle.tk_table.proofs.table.Table.make_room.Goals as goal

pub expire-requires-clause-pair : goal.expire-requires-clause-pair
expire-requires-clause-pair c =
    oldest_pair c.self.inside.shape c.self.inside.grid.shape _ c.self.inside.grid.slots
    c.self.inside.latest _ _ _ _ c.self.invariant c.leave-oldest.ensures.positions c.leave-oldest.ensures.pairs

pub expire-requires-clause-own : goal.expire-requires-clause-own
expire-requires-clause-own c =
    oldest_own c.self.inside.shape c.self.inside.grid.shape _ c.self.inside.grid.slots
    c.self.inside.latest _ _ _ _ c.self.invariant c.leave-oldest.ensures.positions c.leave-oldest.ensures.pairs

pub invariant_of-self : goal.invariant_of-self
invariant_of-self c =
    kept_without c.self.inside.shape c.self.inside.grid.shape _ c.self.inside.grid.slots
    c.self.inside.latest _ _ _ _ c.self.invariant c.leave-oldest.ensures.positions c.leave-oldest.ensures.pairs
    _ _ _ (ap (λ (g : Laid). g.shape) c.expire.ensures)
    (ap (λ (g : Laid). g.slots) c.expire.ensures) c.leave-oldest.ensures.room
