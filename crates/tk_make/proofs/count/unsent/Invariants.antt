-- What the clients so far have left over is counted.
use Rattle.std.proofs.Common.{◌≡◌, take}
use Rattle.tk_report.specs.Leaving.{left_over}
use Rattle.tk_make.proofs.count.unsent.Given as goal

abbrev pub invariant-loop-client : goal.invariant-loop-client
invariant-loop-client l = l.sum ≡ left_over (take l.client-index l.clients)
