-- There was memory for each so far.
use Rattle.std.proofs.Common.{◌≡◌, map}
use Rattle.std.specs.Prelude.{Ok}
use Rattle.tk_run.proofs.tap_bytes.all_seen.Given as goal

abbrev pub invariant-servers : goal.invariant-servers
invariant-servers l = l.yielded ≡ map Ok l.seen.items
