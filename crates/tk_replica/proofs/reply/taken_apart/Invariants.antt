-- Who asked so far, and the vectors.
use Rattle.std.proofs.Common.{◌≡◌, ◌++◌, length, map}
use Rattle.std.specs.Vec.Iter.{into_iter_items, into_iter_len}
use Rattle.tk_replica.specs.Replies.{asker_of, both_vectors}
use Rattle.tk_replica.proofs.reply.taken_apart.Given as goal

abbrev pub invariant-loop-read : goal.invariant-loop-read
invariant-loop-read l =
    record {
      all :
          l.yielded ++ into_iter_items l.read-iterator ≡ into_iter_items l.initial.read-iterator;
      askers : l.askers.items ≡ map asker_of l.yielded;
      vectors : l.vectors.items ≡ both_vectors l.yielded;
      counted : into_iter_len l.read-iterator ≡ length (into_iter_items l.read-iterator);
    }
