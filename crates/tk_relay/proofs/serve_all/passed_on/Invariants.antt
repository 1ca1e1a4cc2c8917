-- The parts of the reads so far.
use Rattle.std.proofs.Common.{◌≡◌, map, take}
use Rattle.tk_relay.specs.Reads.{part_of}
use Rattle.tk_relay.proofs.serve_all.passed_on.Given as goal

abbrev pub invariant-loop-read : goal.invariant-loop-read
invariant-loop-read l =
    l.parts.items ≡ map (λ r. part_of r l.server) (take l.read-index l.reads)
