-- What servers reply to a read, of which all but one reply as they please.
use Rattle.std.specs.Prelude.{ℕ, ◌==◌, cond, List, map}
use Rattle.std.specs.List.{range_with_len}
use Rattle.tk_shape.specs.declared.shape.Shape.{Shape}
use Rattle.tk_frames.specs.declared.read_frame.ReadFrame.{ReadFrame}
use Rattle.tk_frames.specs.declared.reply_frame.ReplyFrame.{ReplyFrame}
use Rattle.tk_frames.specs.Order.{Record}
use Rattle.tk_table.specs.Replies.{reply_to}
use Rattle.tk_hostile.specs.declared.sums.Sums.{Sums}

-- the sums that are chosen beforehand for a turn, a client and a server
abbrev pub Choice : Type 0
Choice = ℕ → ℕ → ℕ → Sums

-- the reply to a read with these sums
abbrev pub reply_with : ReadFrame → Sums → ReplyFrame
reply_with r sums =
    record {
      client = r.client;
      turn = r.turn;
      epoch = r.epoch;
      first = sums.first;
      second = sums.second;
    }

-- the sums of an honest server over these writes
abbrev pub own_sums : Shape → List Record → ReadFrame → Sums
own_sums shape R r =
    let reply = reply_to shape R r in
    record { first = reply.first; second = reply.second }

-- those of server j, where the hidden server is h and gets this read frame: its own, and any other's
-- as they are chosen
abbrev pub sums_by : Shape → ℕ → Choice → List Record → ReadFrame → ℕ → Sums
sums_by shape h F R r j = cond (j == h) (own_sums shape R r) (F r.turn r.client j)

abbrev pub reply_by : Shape → ℕ → Choice → List Record → ReadFrame → ℕ → ReplyFrame
reply_by shape h F R r j = reply_with r (sums_by shape h F R r j)

-- the replies of all servers, in their order
unfoldable pub replies_by : Shape → ℕ → Choice → List Record → ReadFrame → List ReplyFrame
replies_by shape h F R r = map (reply_by shape h F R r) (range_with_len 1 shape.servers)
