-- The three parts of the spelling stand one after the other.
use Rattle.std.proofs.Common.{length, rules}
use Rattle.tk_frames.specs.Spelling.{be32}
use Rattle.tk_packets.specs.Packets.{packet_bytes}
use Rattle.tk_packets.proofs.Pieces.{three-parts}
use Rattle.tk_packets.proofs.packet.Packet.spell.Goals as goal

pub returns : goal.returns
unfolding packet_bytes
returns c =
    three-parts c.args.out.now.items c.extend_from_slice.new.self.items c.extend_from_slice-2.new.self.items
    c.extend_from_slice-3.new.self.items (be32 c.args.self.now.peer) (be32 (length c.args.self.now.bytes))
    c.args.self.now.bytes
    c.in_ok-extend_from_slice.ensures.items c.in_ok-extend_from_slice-2.ensures.items
    c.in_ok-extend_from_slice-3.ensures.items (search rules) (search rules) (search rules)
