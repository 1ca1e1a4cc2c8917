-- What the servers so far saw.
use Rattle.std.proofs.Common.{◌≡◌, ◌-◌, map}
use Rattle.std.specs.List.{range_with_len}
use Rattle.tk_relay.specs.Reads.{sight_seen}
use Rattle.tk_relay.proofs.frames_seen.sights_of.Given as goal

abbrev pub invariant-loop-server : goal.invariant-loop-server
invariant-loop-server l =
    l.sights.items ≡ map (sight_seen l.entries l.reads) (range_with_len 1 (l.server - 1))
