-- What the host of a server sets it up by, and how long a packet may be.
use Rattle.std.specs.Prelude.{ℕ, max, ◌==◌, cond, true, List, flat_map}
use Rattle.tk_shape.specs.declared.shape.Shape.{Shape}
use Rattle.tk_shape.specs.Lengths.{write_len, read_len, seed_read_len}
use Rattle.tk_shape.specs.Numbers.{format_and_numbers}
use Rattle.tk_frames.specs.Spelling.{be32}
use Rattle.tk_packets.specs.Packets.{PacketView, packet}

-- the format and the twelve numbers
unfoldable pub setup_bytes : Shape → List ℕ
setup_bytes shape = flat_map be32 (format_and_numbers shape)

-- thirteen numbers of four bytes each
abbrev pub setup_len : ℕ
setup_len = 52

-- peer 0 is the server's own host
abbrev pub setup : Shape → PacketView
setup shape = packet 0 (setup_bytes shape)

-- the longest read of a shape: one that shows its vectors after their seeds, where there are seeds
abbrev pub longest_read : Shape → ℕ
longest_read shape = cond (shape.format == 2) (seed_read_len shape true) (read_len shape)

-- the longest frame that a client sends
abbrev pub longest_frame : Shape → ℕ
longest_frame shape = max (write_len shape) (longest_read shape)
