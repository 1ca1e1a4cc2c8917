-- The clients so far have their sets.
use Rattle.tk_run.proofs.TalkAll.{Paired}
use Rattle.tk_run.proofs.talk.paired.Given as goal

abbrev pub invariant-pairing : goal.invariant-pairing
invariant-pairing l = Paired l.turn l.deeds l.yielded l.readings.items
