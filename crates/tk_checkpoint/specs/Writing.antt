-- What a state is written as.
use Rattle.std.specs.Prelude.{ℕ, ◌-◌, List, [], ◌++◌, length, map, slice_index_or}
use Rattle.std.specs.List.{concat}
use Rattle.tk_replica.specs.declared.epoch.Epoch.{Epoch}
use Rattle.tk_replica.specs.Replica.{ReplicaView}
use Rattle.tk_checkpoint.specs.Saved.{head_with, window_bytes}

-- the buckets of its last epoch, as bytes
abbrev pub last_blocks : ReplicaView → List (List ℕ)
last_blocks s =
    slice_index_or (map (λ (e : Epoch). e.blocks.blocks) s.kept) (s.last - s.floor) []

-- The numbers in front, the writes of the window, and the buckets of the last epoch. At its mark
-- these are those of the table.
unfoldable pub state_bytes : ReplicaView → List ℕ
state_bytes s =
    head_with s.shape s.applied s.last (length s.window.pushes)
    ++ (window_bytes s.table.positions s.window.pushes ++ concat (last_blocks s))
