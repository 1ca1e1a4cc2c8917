-- Those so far name the epoch, and stand before what is left.
use Rattle.std.proofs.Common.{◌≡◌, ◌<◌, ◌∷◌, ◌++◌, length}
use Rattle.std.specs.List.{AllByRecursion}
use Rattle.tk_frames.specs.declared.read_frame.ReadFrame.{ReadFrame}
use Rattle.tk_replica.proofs.serve.in_a_row.Given as goal

abbrev pub invariant-row : goal.invariant-row
invariant-row l =
    record {
      some : 0 < length l.row.items;
      same : AllByRecursion (λ (r : ReadFrame). r.epoch ≡ l.number) l.row.items;
      taken : l.fn.first ∷ l.fn.rest.items ≡ l.row.items ++ l.rest.items;
    }

abbrev pub decreases-row : goal.decreases-row
decreases-row l = length l.rest.items
