-- One more part is read.
use Rattle.std.proofs.Common.{◌*◌, ◌∙◌, length, ap}
use Rattle.std.proofs.lemmas.List.{length-drop}
use Rattle.tk_shape.specs.Lengths.{vector_len}
use Rattle.tk_frames.specs.Fields.{number_at}
use Rattle.tk_relay.specs.Parts.{part_with}
use Rattle.tk_relay.specs.Bundles.{parts_in}
use Rattle.tk_relay.proofs.Cutting.{left-next}
use Rattle.tk_relay.proofs.BundleLaws.{parts-next}
use Rattle.tk_relay.proofs.parts_of_bundle.parts_of.Goals as goal

pub loop-preserved : goal.loop-preserved
loop-preserved c =
    let shape = c.args.shape.now in
    let bytes = c.args.bytes.now in
    let size = vector_len shape in
    let front = rw c.vector_len-size.ensures at c.split_at-in-loop.ensures.front in
    let back = rw c.vector_len-size.ensures at c.split_at-in-loop.ensures.back in
    let is = rw c.vector_len-size.ensures at c.in_ok-part_of.ensures in
    record {
      len =
          left-next shape.servers c.loop.counter (2 * size) (length c.loop.rest.now)
          (length c.split_at-in-loop.result.1.now) c.loop-test.true c.loop.invariant.len
          (ap length back ∙ length-drop (2 * size) c.loop.rest.now);
      parts =
          parts-next (part_with (number_at 2 bytes) (number_at 6 bytes) (number_at 10 bytes)) size
          shape.servers c.loop.counter c.loop.parts.items c.push.new.self.items
          c.in_ok-part_of.field-0 c.loop.rest.now c.split_at-in-loop.result.0.now
          c.split_at-in-loop.result.1.now (parts_in shape bytes) c.loop-test.true front back is
          c.in_ok-push.ensures.items c.loop.invariant.parts;
    }
