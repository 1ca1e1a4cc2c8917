-- The servers so far have taken the entry, and the others not.
use Rattle.tk_lists.proofs.Offers.{ChangedUpTo}
use Rattle.embed.proofs.ServerLaws.{Takes}
use Rattle.embed.proofs.servers.take_all.Given as goal

abbrev pub invariant-loop-server : goal.invariant-loop-server
invariant-loop-server l = ChangedUpTo (Takes l.frame) l.server-index l.fn.servers l.servers
