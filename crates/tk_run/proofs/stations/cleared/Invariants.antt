-- What the stations so far reply.
use Rattle.std.proofs.Common.{◌≡◌, map}
use Rattle.tk_run.specs.declared.stations.Station.{Station}
use Rattle.tk_run.proofs.stations.cleared.Given as goal

abbrev pub invariant-clearing : goal.invariant-clearing
invariant-clearing l = l.answers.items ≡ map (λ (s : Station). s.replies) l.yielded
