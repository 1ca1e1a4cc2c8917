-- What is taken of a line: nothing, or a packet.
use Rattle.std.proofs.Common.{◌≡◌, sym, arith, ℕ, ◌+◌, ◌≤◌, [], length}
use Rattle.tk_io.specs.Content.{before_taking, Told}
use Rattle.tk_io.proofs.Offers.{before_taking-nothing}
use Rattle.tk_packets.specs.Packets.{PacketView, packet_bytes, TakesAtMost}

pub takes-nothing : (most : ℕ) (left : Told) → TakesAtMost most left left
takes-nothing most left =
    record { taken = []; front = sym (before_taking-nothing left); few = omega arith }

pub takes-packet : (most : ℕ) (p : PacketView) (left rest : Told) → left ≡ before_taking (packet_bytes p) rest →
    length p.bytes ≤ most → TakesAtMost (8 + most) left rest
unfolding packet_bytes
takes-packet most p left rest comes short =
    record { taken = packet_bytes p; front = comes; few = omega (arith, short) }
