-- The servers so far have replied.
use Rattle.std.proofs.Common.{◌≡◌, ◌++◌, length}
use Rattle.std.specs.Vec.Iter.{into_iter_items, into_iter_len}
use Rattle.tk_run.specs.Reading.{EachAt}
use Rattle.tk_run.specs.Answering.{AllReply, AllStand, ReplyDue}
use Rattle.tk_run.proofs.AnsweredLaws.{IsReplied}
use Rattle.tk_run.proofs.answers.give_all.Given as goal

abbrev pub invariant-servers : goal.invariant-servers
invariant-servers l =
    record {
      whole : l.yielded ++ into_iter_items l.replies-iterator
          ≡ into_iter_items l.initial.replies-iterator;
      left : into_iter_len l.replies-iterator ≡ length (into_iter_items l.replies-iterator);
      counted : length l.readings ≡ length l.fn.readings;
      replied : (due : ReplyDue) → AllReply due l.fn.readings l.fn.answers.items →
          EachAt (IsReplied due (AllStand l.fn.readings) (length l.yielded)) l.fn.readings l.readings;
    }
