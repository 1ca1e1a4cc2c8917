-- The number is one of workers, over one shard.
use Rattle.std.proofs.Common.{refl}
use Rattle.tk_cli.proofs.request.asked_run.Goals as goal

pub returns-in-Some : goal.returns-in-Some
returns-in-Some c = (refl, (c.crew_number.ensures c.in-Some.workers).0 c.in-Some.is, refl)
