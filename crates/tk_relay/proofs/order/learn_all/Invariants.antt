-- The passes so far were told, and the others not.
use Rattle.std.proofs.Common.{◌≡◌}
use Rattle.tk_lists.proofs.Offers.{ChangedUpTo}
use Rattle.tk_cluster.specs.Passes.{Learns, ReadsOnly}
use Rattle.tk_relay.proofs.order.learn_all.Given as goal

abbrev pub invariant-loop-pass : goal.invariant-loop-pass
invariant-loop-pass g l =
    record {
      told : l.told ≡ l.fn.told;
      learned : ChangedUpTo (ReadsOnly (λ a b. Learns a l.fn.told b)) l.pass-index l.fn.passes l.passes;
    }
