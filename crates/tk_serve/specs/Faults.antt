-- What the process ends with, and the line that tells it.
use Rattle.std.specs.Prelude.{ℕ, List, codes}
use Rattle.tk_packets.specs.declared.packet_error.PacketError.{PacketError}
use Rattle.tk_packets.specs.declared.packet_error.PacketError.TheVariants as packets
use Rattle.tk_packets.specs.declared.put_error.PutError.{PutError}
use Rattle.tk_packets.specs.declared.put_error.PutError.TheVariants as puts
use Rattle.tk_serve.specs.declared.fault.Fault.{Fault}
use Rattle.tk_serve.specs.declared.fault.Fault.TheVariants as fault

abbrev pub fault_code : Fault → ℕ
fault_code fault.Memory = 1
fault_code fault.Read = 4
fault_code fault.Write = 5
fault_code fault.Cut = 20
fault_code fault.Long = 21
fault_code fault.Setup = 22
fault_code fault.Peer = 23

abbrev pub fault_line : Fault → List ℕ
fault_line fault.Memory = codes "serve: memory\n"
fault_line fault.Read = codes "serve: read\n"
fault_line fault.Write = codes "serve: write\n"
fault_line fault.Cut = codes "serve: cut\n"
fault_line fault.Long = codes "serve: long\n"
fault_line fault.Setup = codes "serve: setup\n"
fault_line fault.Peer = codes "serve: peer\n"

-- the faults that a packet gives that isn't taken, and packets that aren't put
abbrev pub fault_of_packet : PacketError → Fault
fault_of_packet packets.Memory = fault.Memory
fault_of_packet packets.Read = fault.Read
fault_of_packet packets.Cut = fault.Cut
fault_of_packet packets.Long = fault.Long

abbrev pub fault_of_put : PutError → Fault
fault_of_put puts.Memory = fault.Memory
fault_of_put puts.Write = fault.Write
