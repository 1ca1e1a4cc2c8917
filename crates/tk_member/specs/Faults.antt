-- What the process ends with, and the line that tells it.
use Rattle.std.specs.Prelude.{ℕ, List, codes}
use Rattle.tk_packets.specs.declared.packet_error.PacketError.{PacketError}
use Rattle.tk_packets.specs.declared.packet_error.PacketError.TheVariants as packets
use Rattle.tk_packets.specs.declared.put_error.PutError.{PutError}
use Rattle.tk_packets.specs.declared.put_error.PutError.TheVariants as puts
use Rattle.tk_member.specs.declared.fault.Fault.{Fault}
use Rattle.tk_member.specs.declared.fault.Fault.TheVariants as fault

abbrev pub fault_code : Fault → ℕ
fault_code fault.Memory = 1
fault_code fault.Read = 4
fault_code fault.Write = 5
fault_code fault.Cut = 20
fault_code fault.Long = 21
fault_code fault.Setup = 22
fault_code fault.Peer = 23
fault_code fault.Differ = 24
fault_code fault.Refused = 25
fault_code fault.Older = 26

abbrev pub fault_line : Fault → List ℕ
fault_line fault.Memory = codes "member: memory\n"
fault_line fault.Read = codes "member: read\n"
fault_line fault.Write = codes "member: write\n"
fault_line fault.Cut = codes "member: cut\n"
fault_line fault.Long = codes "member: long\n"
fault_line fault.Setup = codes "member: setup\n"
fault_line fault.Peer = codes "member: peer\n"
fault_line fault.Differ = codes "member: differ\n"
fault_line fault.Refused = codes "member: refused\n"
fault_line fault.Older = codes "member: older\n"

-- the faults that a packet gives that isn't taken, and packets that aren't put
abbrev pub fault_of_packet : PacketError → Fault
fault_of_packet packets.Memory = fault.Memory
fault_of_packet packets.Read = fault.Read
fault_of_packet packets.Cut = fault.Cut
fault_of_packet packets.Long = fault.Long

abbrev pub fault_of_put : PutError → Fault
fault_of_put puts.Memory = fault.Memory
fault_of_put puts.Write = fault.Write
