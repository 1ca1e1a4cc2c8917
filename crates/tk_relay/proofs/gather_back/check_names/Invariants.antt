-- The first part that names another read is among the others.
use Rattle.std.proofs.Common.{◌≡◌, ◌+◌, drop}
use Rattle.tk_relay.specs.Parts.{first_part}
use Rattle.tk_relay.specs.Refusals.{first_other_from}
use Rattle.tk_relay.proofs.gather_back.check_names.Given as goal

abbrev pub invariant-loop-i : goal.invariant-loop-i
invariant-loop-i l =
    first_other_from (first_part l.parts) 1 l.parts
    ≡ first_other_from (first_part l.parts) (l.i + 1) (drop l.i l.parts)
