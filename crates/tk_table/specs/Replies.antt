-- What the table gives to a read.
use Rattle.std.specs.Prelude.{List}
use Rattle.tk_shape.specs.declared.shape.Shape.{Shape}
use Rattle.tk_shape.specs.Lengths.{width}
use Rattle.tk_kernel.specs.Chosen.{chosen_sum}
use Rattle.tk_frames.specs.declared.read_frame.ReadFrame.{ReadFrame}
use Rattle.tk_frames.specs.declared.reply_frame.ReplyFrame.{ReplyFrame}
use Rattle.tk_frames.specs.Order.{Record}
use Rattle.tk_table.specs.Table.{layout, blocks_of}

-- the reply to a read over these writes
abbrev pub reply_to : Shape → List Record → ReadFrame → ReplyFrame
reply_to shape R r =
    let blocks = blocks_of (layout shape R) in
    record {
      client = r.client;
      turn = r.turn;
      epoch = r.epoch;
      first = chosen_sum (width shape) blocks r.first;
      second = chosen_sum (width shape) blocks r.second;
    }
