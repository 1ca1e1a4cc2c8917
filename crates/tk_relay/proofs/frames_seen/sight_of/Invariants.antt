-- What the server saw of the reads so far, and of those that are left.
use Rattle.std.proofs.Common.{◌≡◌, ◌++◌, drop, flat_map}
use Rattle.tk_relay.specs.Reads.{read_seen, sight_seen}
use Rattle.tk_relay.proofs.frames_seen.sight_of.Given as goal

abbrev pub invariant-loop-read : goal.invariant-loop-read
invariant-loop-read l =
    l.bytes.items ++ flat_map (read_seen l.server) (drop l.read-index l.reads)
    ≡ sight_seen l.entries l.reads l.server
