-- What the proofs of other crates may cite.

-- The marks of a shape's filter are whole bytes, and can be read out of these again.
pub use Rattle.tk_packets.proofs.MarkLaws.{marks-whole, marks-read_again, read_again}
-- What is taken of a line: nothing, or a packet.
pub use Rattle.tk_packets.proofs.Takings.{takes-nothing, takes-packet}
-- What passes over a line, packet after packet.
pub use Rattle.tk_packets.proofs.Passings.{passed-twice, passed-nothing, front-whole, front-second}
pub use Rattle.tk_packets.proofs.Passings.{dealt-bytes, dealt-order, dealt-bytes_front, dealt-order_front}
pub use Rattle.tk_packets.proofs.Passings.{taking-order, taking-bytes, state_after, exchanges-both, exchanges-one}
