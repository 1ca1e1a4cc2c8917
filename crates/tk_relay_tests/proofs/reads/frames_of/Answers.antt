-- One more frame is along the same read, and at last all are along the first.
use Rattle.std.proofs.Common.{◌+◌, length, sym, subst, ap, ◌∙◌, arith}
use Rattle.std.proofs.lemmas.List.{length-append}
use Rattle.std.specs.List.{AllByRecursion}
use Rattle.tk_frames.proofs.Offers.{each-push}
use Rattle.tk_relay.specs.Bundles.{IsAlong}
use Rattle.tk_relay_tests.proofs.RelayedReads.{read_over, along-first}
use Rattle.tk_relay_tests.proofs.reads.frames_of.Goals as goal

pub loop-vector-preserved : goal.loop-vector-preserved
loop-vector-preserved c =
    let along = IsAlong c.args.shape.now (read_over c.args.epoch) in
    let frames = c.loop-vector.frames.items in
    let frame = c.in_ok-frame_of.field-0 in
    let made = c.in_ok-frame_of.ensures in
    let pushed = c.in_ok-push.ensures.items in
    let here : along frame =
    record {
      client = made.client;
      turn = made.turn;
      epoch = made.epoch;
      vectors = record { first = made.first; second = made.second };
    }
    in
    record {
      counted =
          ap length pushed ∙ length-append frames _ ∙ ap (λ n. n + 1) c.loop-vector.invariant.counted;
      along = subst (AllByRecursion along) (sym pushed)
          (each-push along frames frame c.loop-vector.invariant.along here);
    }

pub returns : goal.returns
returns c =
    record {
      counted = omega (arith, c.loop-vector.invariant.counted, c.if-vectors-shape.false);
      along =
          along-first c.args.shape.now (read_over c.args.epoch) c.loop-vector.frames.items
          c.loop-vector.invariant.along;
    }
