-- Each of the frames so far spells a read.
use Rattle.std.proofs.Common.{◌≡◌, None, take}
use Rattle.tk_replica.specs.Refusals.{first_refusal}
use Rattle.tk_replica.specs.Replies.{AreAsked}
use Rattle.tk_replica.proofs.state.ReplicaState.read_all.Given as goal

abbrev pub invariant-loop-frame : goal.invariant-loop-frame
invariant-loop-frame l =
    record {
      asked : AreAsked l.self (take l.frame-index l.frames) l.reads.items;
      kept : first_refusal l.self (take l.frame-index l.frames) ≡ None;
    }
