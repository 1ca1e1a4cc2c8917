-- What is joined so far and the parts that are left join to all.
use Rattle.tk_relay.proofs.GatheringLaws.{Joining}
use Rattle.tk_relay.proofs.gather_back.gather.Given as goal

abbrev pub invariant-loop-i : goal.invariant-loop-i
invariant-loop-i l = Joining l.parts l.i l.sum
