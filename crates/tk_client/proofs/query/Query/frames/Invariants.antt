-- The frames of the servers so far.
use Rattle.std.proofs.Common.{◌≡◌, ◌-◌, map}
use Rattle.std.specs.List.{range_with_len}
use Rattle.tk_client.specs.Framing.{query_frame}
use Rattle.tk_client.proofs.query.Query.frames.Given as goal

abbrev pub invariant-loop-server : goal.invariant-loop-server
invariant-loop-server l =
    l.frames.items ≡ map (query_frame l.shape l.self) (range_with_len 1 (l.server - 1))
