-- Each of the frames so far spells a read of the epoch.
use Rattle.std.proofs.Common.{◌≡◌, None, take}
use Rattle.tk_cluster.specs.Refusals.{first_unanswered}
use Rattle.tk_cluster.specs.Many.{AreReads}
use Rattle.tk_cluster.proofs.set.EpochSet.reads.Given as goal

abbrev pub invariant-loop-frame : goal.invariant-loop-frame
invariant-loop-frame l =
    let front = take l.frame-index l.frames in
    record {
      reads : AreReads l.self.shape l.self.number front l.askers.items l.vectors.items;
      kept : first_unanswered l.self.shape l.self.number front ≡ None;
    }
