-- The passes so far have pinned the set of the number, and the others not.
use Rattle.std.proofs.Common.{◌≡◌, List, Some, slice_get}
use Rattle.std.specs.Arc.{arc_value}
use Rattle.std.specs.Prelude.{IfSome}
use Rattle.tk_lists.proofs.Offers.{ChangedUpTo}
use Rattle.tk_frames.specs.declared.entry.Placed.{Placed}
use Rattle.tk_frames.specs.InOrder.{mark_count}
use Rattle.tk_cluster.specs.Tellings.{Telling}
use Rattle.tk_relay.specs.Ordered.{HaveOrdered}
use Rattle.tk_relay.proofs.OrderedLaws.{PinsAt}
use Rattle.tk_relay.proofs.servers.pin_all.Given as goal

abbrev pub invariant-loop-pass : goal.invariant-loop-pass
invariant-loop-pass g l =
    record {
      pins : ChangedUpTo (PinsAt l.number) l.pass-index l.fn.passes l.passes;
      set : (E : List Placed) (p : Telling) → HaveOrdered g.B.Naming.shape E l.fn.passes p →
          l.number ≡ mark_count E →
          IfSome l.pinned (λ set. slice_get p.shown l.number ≡ Some (arc_value set));
    }
