-- The numbers are one of workers and one of shards.
use Rattle.std.proofs.Common.{refl}
use Rattle.tk_cli.proofs.request.asked_sharded.Goals as goal

pub returns-in-Some-crew_number : goal.returns-in-Some-crew_number
returns-in-Some-crew_number c = (
  refl,
  (c.crew_number.ensures c.in-Some.workers).0 c.in-Some.is,
  (c.crew_number-2.ensures c.in-Some-crew_number.shards).0 c.in-Some-crew_number.is,
)
