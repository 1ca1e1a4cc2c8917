-- The replies that a client makes of the one reply that it gets.
use Rattle.std.specs.Prelude.{ℕ, ◌-◌, List, ◌∷◌, map, replicate}
use Rattle.tk_shape.specs.declared.shape.Shape.{Shape}
use Rattle.tk_shape.specs.Lengths.{width}
use Rattle.tk_frames.specs.declared.read_frame.ReadFrame.{ReadFrame}
use Rattle.tk_frames.specs.declared.reply_frame.ReplyFrame.{ReplyFrame}
use Rattle.tk_frames.specs.Spelling.{reply_frame}
use Rattle.tk_relay.specs.declared.part.Part.{Part}
use Rattle.tk_relay.specs.Halves.{Halves, mixed, joined}
use Rattle.tk_relay.specs.Pads.{PadLists}
use Rattle.tk_relay.specs.Parts.{halves_of}
use Rattle.tk_relay.specs.Bundles.{vectors_of}
use Rattle.tk_relay.specs.Serving.{sums_for}

-- the reply to the read of a part, with these sums
abbrev pub reply_with : Part → Halves → ReplyFrame
reply_with p sums =
    record {
      client = p.client;
      turn = p.turn;
      epoch = p.epoch;
      first = sums.first;
      second = sums.second;
    }

-- the reply to a read over these blocks
abbrev pub reply_over : Shape → List (List ℕ) → ReadFrame → ReplyFrame
reply_over shape blocks r =
    record {
      client = r.client;
      turn = r.turn;
      epoch = r.epoch;
      first = (sums_for shape blocks (vectors_of r)).first;
      second = (sums_for shape blocks (vectors_of r)).second;
    }

-- the sums of a part with all reply pads taken off
abbrev pub unmasked : Shape → PadLists → Part → Halves
unmasked shape pads p = mixed (halves_of p) (joined (width shape) pads.replies)

abbrev pub zero_halves : ℕ → Halves
zero_halves size = record { first = replicate size 0; second = replicate size 0 }

-- the first server's reply has the unmasked sums, and those of the others have zeros
unfoldable pub replies_from : Shape → PadLists → Part → List ReplyFrame
replies_from shape pads p =
    reply_with p (unmasked shape pads p)
    ∷ replicate (shape.servers - 1) (reply_with p (zero_halves (width shape)))

-- their frames
abbrev pub reply_frames_from : Shape → PadLists → Part → List (List ℕ)
reply_frames_from shape pads p = map reply_frame (replies_from shape pads p)
