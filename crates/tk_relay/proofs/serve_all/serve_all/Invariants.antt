-- The servers so far have replied to all reads.
use Rattle.std.proofs.Common.{◌≡◌, ◌-◌, List, length}
use Rattle.std.specs.Prelude.{All}
use Rattle.tk_shape.specs.declared.shape.Shape.{Shape}
use Rattle.tk_frames.specs.declared.entry.Placed.{Placed}
use Rattle.tk_frames.specs.Order.{before}
use Rattle.tk_table.specs.Table.{layout, blocks_of}
use Rattle.tk_cluster.specs.Sets.{StandsAtMark}
use Rattle.tk_relay.specs.Reads.{HasAllParts, AreServed}
use Rattle.tk_relay.proofs.serve_all.serve_all.Given as goal

abbrev pub invariant-loop-server : goal.invariant-loop-server
invariant-loop-server l =
    record {
      counted : length l.reads ≡ length l.fn.reads;
      whole : All (HasAllParts l.set.shape) l.reads;
      served : (shape : Shape) (E : List Placed) → StandsAtMark shape E l.set.number l.set →
          AreServed shape (blocks_of (layout shape (before E l.set.number))) l.pads 1 (l.server - 1)
          l.fn.reads l.reads;
    }
