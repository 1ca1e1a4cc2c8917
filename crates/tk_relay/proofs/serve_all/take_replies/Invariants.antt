-- The reads so far have their replies.
use Rattle.std.proofs.Common.{◌≡◌, length, drop}
use Rattle.std.specs.Prelude.{slice_index_or}
use Rattle.std.specs.Vec.Iter.{into_iter_items}
use Rattle.tk_report.proofs.Offers.{IsSplit}
use Rattle.tk_relay.specs.declared.part.Part.{Part}
use Rattle.tk_relay.specs.Reads.{HasReply}
use Rattle.tk_relay.proofs.serve_all.take_replies.Given as goal

abbrev pub invariant-loop-read : goal.invariant-loop-read
invariant-loop-read l =
    let all = into_iter_items l.initial.rest in
    record {
      counted : length l.reads ≡ length l.fn.reads;
      rest : into_iter_items l.rest ≡ drop l.read-index all;
      split : IsSplit l.read-index
          (λ k r. (p : Part) → HasReply (slice_index_or all k p) (slice_index_or l.fn.reads k r) r)
          (λ k r. r ≡ slice_index_or l.fn.reads k r) l.reads;
    }
