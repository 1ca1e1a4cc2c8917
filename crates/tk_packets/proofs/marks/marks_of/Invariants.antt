use Rattle.std.proofs.Common.{◌≡◌}
use Rattle.tk_packets.specs.Marks.{mark_bytes}
use Rattle.tk_packets.proofs.marks.marks_of.Given as goal

abbrev pub invariant-bytes : goal.invariant-bytes
invariant-bytes l = l.bytes.items ≡ mark_bytes l.i l.filter
