-- The handles of the logs so far are made.
use Rattle.std.proofs.Common.{◌≡◌, map}
use Rattle.std.specs.List.{range_with_len}
use Rattle.tk_make.specs.Making.{made_handle}
use Rattle.tk_make.proofs.keys.make_handles.Given as goal

abbrev pub invariant-loop-log : goal.invariant-loop-log
invariant-loop-log l = l.handles.items ≡ map (made_handle l.root) (range_with_len 0 l.log)
