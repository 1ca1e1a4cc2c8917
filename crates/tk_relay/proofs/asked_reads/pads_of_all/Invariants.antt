-- The pads of the seeds so far.
use Rattle.std.proofs.Common.{◌≡◌, take}
use Rattle.tk_relay.specs.Pads.{paddings_of}
use Rattle.tk_relay.proofs.asked_reads.pads_of_all.Given as goal

abbrev pub invariant-loop-seed : goal.invariant-loop-seed
invariant-loop-seed l = l.pads.items ≡ paddings_of l.shape (take l.seed-index l.seeds) l.turn
