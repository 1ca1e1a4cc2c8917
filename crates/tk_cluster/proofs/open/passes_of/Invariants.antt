-- The seats of the clients that are left, and the passes of the others.
use Rattle.std.proofs.Common.{◌≡◌, ◌-◌, ◌∷◌, [], All, map}
use Rattle.std.specs.Arc.{arc_value}
use Rattle.std.specs.List.{range_with_len}
use Rattle.atomic_table.specs.Seated.{TableId}
use Rattle.tk_cluster.specs.Passes.{seats_for, fresh}
use Rattle.tk_cluster.proofs.open.passes_of.Given as goal

abbrev pub invariant-loop-client : goal.invariant-loop-client
invariant-loop-client g l =
    record {
      seats : l.seats.items ≡ seats_for l.client (l.clients - l.client);
      lists : All (λ r. r.list ≡ arc_value l.first ∷ []) l.readers.items;
      passes : (board : TableId) → All (λ r. r.board ≡ board) l.fn.readers.items →
          All (λ r. r.board ≡ board) l.readers.items
          × (l.passes.items ≡ map (fresh board (arc_value l.first)) (range_with_len 0 l.client));
    }
