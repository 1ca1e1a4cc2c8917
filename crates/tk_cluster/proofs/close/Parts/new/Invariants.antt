-- So many clients have a list.
use Rattle.std.proofs.Common.{◌≡◌, [], map, length}
use Rattle.std.specs.Prelude.{replicate}
use Rattle.tk_cluster.proofs.close.Parts.new.Given as goal

abbrev pub invariant-loop-made : goal.invariant-loop-made
invariant-loop-made g l =
    record {
      counted : length l.epochs.items ≡ l._made;
      epochs : map (λ v. v.items) l.epochs.items ≡ replicate l._made [];
    }
