use Rattle.std.proofs.Common.{◌≡◌, List, Bool, IfOk, subst}
use Rattle.tk_bloom.proofs.Showing.{map-counts}
use Rattle.tk_bloom.proofs.tally.Tally.occurring.Goals as goal

pub returns : goal.returns
returns c =
    rw (← c.self.view_is)
    (subst (λ (marks : List Bool). IfOk c.of_counts.result (λ m. m ≡ marks))
    (map-counts _ _ _ c.self.invariant) (rw c.deref.ensures.value at c.of_counts.ensures))
