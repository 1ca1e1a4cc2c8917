-- The frames of the servers so far are spelled.
use Rattle.std.proofs.Common.{◌≡◌, ◌-◌, map}
use Rattle.std.specs.List.{range_with_len}
use Rattle.tk_frames.specs.Spelling.{read_frame}
use Rattle.tk_client.specs.Framing.{query_frame}
use Rattle.tk_client.proofs.query.Query.spelled.Given as goal

abbrev pub invariant-loop-server : goal.invariant-loop-server
invariant-loop-server l =
    l.spelled.items
    ≡ map read_frame (map (query_frame l.shape l.self) (range_with_len 1 (l.server - 1)))
