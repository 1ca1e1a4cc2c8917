-- Those so far read the epoch of the first.
use Rattle.std.proofs.Common.{◌≡◌, ℕ, ◌<◌, ◌≤◌, ◌-◌, length}
use Rattle.std.specs.Prelude.{slice_index_or}
use Rattle.tk_run.specs.declared.talk.Reading.{Reading}
use Rattle.tk_run.specs.Answering.{epoch_of}
use Rattle.tk_run.proofs.replies.in_a_row.Given as goal

abbrev pub invariant-row : goal.invariant-row
invariant-row l =
    record {
      some : 0 < l.count;
      within : l.count ≤ length l.readings;
      same : (k : ℕ) (d : Reading) → k < l.count →
          epoch_of (slice_index_or l.readings k d) ≡ epoch_of (slice_index_or l.readings 0 d);
    }

abbrev pub decreases-row : goal.decreases-row
decreases-row l = length l.readings - l.count
