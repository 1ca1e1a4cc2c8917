-- The first part of another epoch is among those that are left.
use Rattle.std.proofs.Common.{◌≡◌, drop}
use Rattle.tk_relay.specs.Refusals.{first_other_epoch}
use Rattle.tk_relay.proofs.server_parts.check_epochs.Given as goal

abbrev pub invariant-loop-part : goal.invariant-loop-part
invariant-loop-part l =
    first_other_epoch l.number l.parts ≡ first_other_epoch l.number (drop l.part-index l.parts)
