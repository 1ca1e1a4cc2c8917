-- Frames of parts that lie elsewhere.
use Rattle.std.specs.Prelude.{ℕ, List, ◌++◌}
use Rattle.tk_frames.specs.declared.lent.Way.{Way}
use Rattle.tk_frames.specs.declared.lent.Way.TheVariants as way
use Rattle.tk_frames.specs.declared.lent.LentRead.{LentRead}
use Rattle.tk_frames.specs.declared.lent.LentReply.{LentReply}
use Rattle.tk_frames.specs.declared.read_frame.ReadFrame.{ReadFrame}
use Rattle.tk_frames.specs.declared.reply_frame.ReplyFrame.{ReplyFrame}
use Rattle.tk_frames.specs.declared.seeds.Seeds.{Seeds}
use Rattle.tk_frames.specs.declared.seeds.Seeds.TheVariants.{Plain, Seeded, Shown}

-- how a read tells its vectors, where these are their seeds
abbrev pub seeds_by_way : Way → List ℕ → Seeds
seeds_by_way way.Plain seeds = Plain
seeds_by_way way.Seeded seeds = Seeded seeds
seeds_by_way way.Shown seeds = Shown seeds

-- the read with these parts
abbrev pub read_of : ℕ → ℕ → ℕ → List ℕ → List ℕ → Seeds → ReadFrame
read_of client turn epoch first second seeds =
    record {
      client = client;
      turn = turn;
      epoch = epoch;
      first = first;
      second = second;
      seeds = seeds;
    }

-- the reply with these parts
abbrev pub reply_of : ℕ → ℕ → ℕ → List ℕ → List ℕ → ReplyFrame
reply_of client turn epoch first second =
    record { client = client; turn = turn; epoch = epoch; first = first; second = second }

-- the read of parts that are lent
abbrev pub lent_read : LentRead → ReadFrame
lent_read l =
    read_of l.client l.turn l.epoch l.vectors.0.now l.vectors.1.now
    (seeds_by_way l.way (l.seeds.0.now ++ l.seeds.1.now))

-- the reply of sums that are lent
abbrev pub lent_reply : LentReply → ReplyFrame
lent_reply l = reply_of l.client l.turn l.epoch l.sums.0.now l.sums.1.now
