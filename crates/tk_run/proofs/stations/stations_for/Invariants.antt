-- As many places as there are servers so far.
use Rattle.std.proofs.Common.{◌≡◌, length}
use Rattle.tk_run.proofs.stations.stations_for.Given as goal

abbrev pub invariant-servers : goal.invariant-servers
invariant-servers l = length l.stations.items ≡ l._server
