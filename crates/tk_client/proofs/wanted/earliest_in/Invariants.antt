-- What is found so far, and what the slots that are left give, are what all slots give.
use Rattle.std.proofs.Common.{◌≡◌}
use Rattle.std.specs.Slice.Iter.{chunks_exact_rest, chunks_exact_size}
use Rattle.tk_shape.specs.Lengths.{slot_len}
use Rattle.tk_words.specs.Words.{words_of, opened}
use Rattle.tk_client.specs.Taken.{earlier_of_both}
use Rattle.tk_client.proofs.TakingLaws.{given}
use Rattle.tk_client.proofs.wanted.earliest_in.Given as goal

abbrev pub invariant-loop-slot : goal.invariant-loop-slot
invariant-loop-slot g l =
    let words = words_of l.shape (g.D.Draws.book l.draws) in
    let opens = opened words l.wanted.log l.wanted.number in
    let gives = given l.shape l.wanted.pair opens in
    let so_far = l.earliest in
    record {
      size : chunks_exact_size l.slot-iterator ≡ slot_len l.shape;
      whole :
          earlier_of_both so_far (gives (chunks_exact_rest l.slot-iterator)) ≡ gives l.block;
    }
