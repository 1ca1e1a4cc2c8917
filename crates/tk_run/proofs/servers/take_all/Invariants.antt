-- The servers so far have taken the entry, and the others not.
use Rattle.tk_lists.proofs.Offers.{ChangedUpTo}
use Rattle.tk_run.proofs.TakingLaws.{Takes}
use Rattle.tk_run.proofs.servers.take_all.Given as goal

abbrev pub invariant-loop-server : goal.invariant-loop-server
invariant-loop-server l = ChangedUpTo (Takes l.placed) l.server-index l.fn.servers l.servers
