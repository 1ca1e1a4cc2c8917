-- The loop takes the slots from the front of the block, until none is left.
use Rattle.std.proofs.Common.{◌<◌, ◌∙◌, length, arith}
use Rattle.std.specs.Slice.Iter.{chunks_exact_rest}
use Rattle.tk_shape.specs.Lengths.{slot_len}
use Rattle.tk_words.specs.Words.{words_of, opened}
use Rattle.tk_client.proofs.TakingLaws.{given-next, given-all}
use Rattle.tk_client.proofs.wanted.earliest_in.Goals as goal

pub loop-slot-preserved : goal.loop-slot-preserved
loop-slot-preserved g c =
    let wanted = c.args.wanted in
    let words = words_of c.args.shape.now (g.D.Draws.book c.args.draws.now) in
    let opens = opened words wanted.log wanted.number in
    let so_far = c.loop-slot.invariant in
    let (size_is, (split, long), _) = c.in-Some.ensures.steps in
    record {
      size = size_is ∙ so_far.size;
      whole =
          given-next c.args.shape.now wanted.pair opens c.args.block.now
          (chunks_exact_rest c.loop-slot.slot-iterator) c.in-Some.slot.now
          (chunks_exact_rest c.next.new.self)
          c.loop-slot.earliest c.in_ok-next.next
          c.earlier-earliest.result
          split (long ∙ so_far.size) c.in_ok-next.ensures.accepted c.earlier-earliest.ensures
          so_far.whole;
    }

pub returns : goal.returns
returns g c =
    let wanted = c.args.wanted in
    let words = words_of c.args.shape.now (g.D.Draws.book c.args.draws.now) in
    let opens = opened words wanted.log wanted.number in
    let so_far = c.loop-slot.invariant in
    let rest = chunks_exact_rest c.loop-slot.slot-iterator in
    let (_, (less, _), _) = c.in-None.ensures.steps in
    let short : length rest < slot_len c.args.shape.now = omega (arith, less, so_far.size) in
    record {
      earliest =
          given-all c.args.shape.now wanted.pair opens c.args.block.now rest
          c.loop-slot.earliest c.requires.whole short so_far.whole;
    }
