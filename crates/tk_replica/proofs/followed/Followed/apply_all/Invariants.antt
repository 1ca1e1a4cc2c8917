-- As many more entries are applied as were taken.
use Rattle.std.proofs.Common.{◌≡◌, ◌+◌}
use Rattle.tk_replica.proofs.followed.Followed.apply_all.Given as goal

abbrev pub invariant-loop-placed : goal.invariant-loop-placed
invariant-loop-placed g l =
    record {
      list : l.self.list ≡ l.fn.self.list;
      floor : l.self.state.floor ≡ l.fn.self.state.floor;
      applied : l.self.state.applied ≡ l.fn.self.state.applied + l.placed-index;
    }
