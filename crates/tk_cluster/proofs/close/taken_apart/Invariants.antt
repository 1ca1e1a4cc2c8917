-- The passes so far are taken apart.
use Rattle.std.proofs.Common.{◌≡◌, [], map, length}
use Rattle.std.specs.Prelude.{replicate}
use Rattle.tk_cluster.specs.Closings.{by_client}
use Rattle.tk_cluster.specs.Passes.{reader_of, seat_of}
use Rattle.tk_cluster.proofs.close.taken_apart.Given as goal

abbrev pub invariant-loop-pass : goal.invariant-loop-pass
invariant-loop-pass g l =
    record {
      counted : length l.parts.epochs.items ≡ g.B.Naming.shape.clients;
      seats : l.parts.seats.items ≡ map seat_of l.yielded;
      readers : l.parts.readers.items ≡ map reader_of l.yielded;
      epochs : map (λ v. v.items) l.parts.epochs.items
          ≡ by_client (replicate l.clients []) l.yielded;
    }
