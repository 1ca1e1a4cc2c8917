-- What an epoch that is kept gives: the reply to a read over it, and the frame that tells of it.
use Rattle.std.specs.Prelude.{ℕ, ◌+◌, ◌*◌, ◌<◌, ◌^◌, nat_le, cond, List, [], ◌∷◌, ◌++◌, map, take}
use Rattle.tk_shape.specs.declared.shape.Shape.{Shape}
use Rattle.tk_frames.specs.declared.read_frame.ReadFrame.{ReadFrame}
use Rattle.tk_frames.specs.Ranges.{IsRead}
use Rattle.tk_replica.specs.declared.epoch.Epoch.{Epoch}
use Rattle.tk_replica.specs.Replies.{frame_over}
use Rattle.tk_packets.specs.declared.epoch_frame.EpochFrame.{EpochFrame}
use Rattle.tk_packets.specs.Frames.{marks_len, epoch_frame}
use Rattle.tk_packets.specs.Marks.{mark_bytes}
use Rattle.tk_packets.specs.Packets.{PacketView, packet}
use Rattle.tk_serve.specs.Desks.{DeskView}

-- the packet with the reply to a read
abbrev pub packet_over : Epoch → ReadFrame → PacketView
packet_over epoch r = packet (r.client + 1) (frame_over epoch r)

abbrev pub epoch_of : Shape → Epoch → EpochFrame
epoch_of shape epoch =
    record { epoch = epoch.number; marks = mark_bytes (marks_len shape) epoch.filter }

-- a read that may be answered over it
pub record IsAnswerable (epoch : Epoch) (r : ReadFrame) : Type 0 where
  pub in_range : IsRead epoch.shape r
  pub numbered : r.client + 1 < 2 ^ 32

-- what it brings to a client with this desk
abbrev pub news_of : Shape → Epoch → ℕ → DeskView → List PacketView
news_of shape epoch c d =
    cond (nat_le (epoch.number * shape.ticks) d.asked) (packet (c + 1) (epoch_frame (epoch_of shape epoch)) ∷ []) []
    ++ map (packet_over epoch) (take shape.ticks d.asking)

-- and to those with these desks, the first of them client c
abbrev pub news_for : Shape → Epoch → ℕ → List DeskView → List PacketView
news_for shape epoch c [] = []
news_for shape epoch c (d ∷ ds) = news_of shape epoch c d ++ news_for shape epoch (c + 1) ds
