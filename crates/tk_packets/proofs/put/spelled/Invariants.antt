use Rattle.std.proofs.Common.{◌≡◌, take}
use Rattle.tk_packets.specs.Packets.{packets_bytes}
use Rattle.tk_packets.proofs.put.spelled.Given as goal

abbrev pub invariant-packets : goal.invariant-packets
invariant-packets l = l.out.items ≡ packets_bytes (take l.packet-index l.packets)
