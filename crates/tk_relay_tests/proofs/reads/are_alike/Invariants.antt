-- All parts so far are as long as the first.
use Rattle.std.proofs.Common.{take}
use Rattle.std.specs.List.{AllByRecursion}
use Rattle.tk_relay.specs.Parts.{first_part}
use Rattle.tk_relay.specs.Serving.{IsAlike}
use Rattle.tk_relay_tests.proofs.reads.are_alike.Given as goal

abbrev pub invariant-loop-part : goal.invariant-loop-part
invariant-loop-part l =
    AllByRecursion (IsAlike (first_part l.parts)) (take l.part-index l.parts)
