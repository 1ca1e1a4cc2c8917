-- The logs that are followed stay the shape's.
use Rattle.std.proofs.Common.{length}
use Rattle.tk_client.proofs.ClientLaws.{below-after, open-target}
use Rattle.tk_client.proofs.client.Client.take_replies.Goals as goal

pub invariant_of-self-2 : goal.invariant_of-self-2
invariant_of-self-2 g c =
    let was = c.self.inside in
    let read = c.unwrap-read.result in
    let target =
    open-target was.shape (length was.reader.follows) was.read read c.unwrap-read.ensures
    c.self.invariant.read_in
    in
    record {
      one_shape = c.self.invariant.one_shape;
      number_in = c.self.invariant.number_in;
      follows_in =
          below-after was.shape read.epoch was.reader c.take.new.self _ c.in_ok-answer.answer
          c.in_ok-take.ensures.taken target c.self.invariant.follows_in;
      read_in = tt;
    }
