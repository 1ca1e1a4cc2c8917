use Rattle.std.proofs.Common.{◌≡◌, ◌+◌, ◌-◌, ◌^◌, ◌<◌}
use Rattle.tk_packets.specs.Marks.{bits_from}
use Rattle.tk_packets.proofs.marks.mark_byte.Given as goal

abbrev pub invariant-marks : goal.invariant-marks
invariant-marks l = record {
  bits : l.byte ≡ bits_from l.done l.filter (l.first + (8 - l.done));
  small : l.byte < 2 ^ l.done;
}
