-- Nothing is known of the logs so far.
use Rattle.std.proofs.Common.{◌≡◌, map, take}
use Rattle.tk_client.specs.Reader.{new_follow}
use Rattle.tk_client.proofs.reader.Reader.new.Given as goal

abbrev pub invariant-loop-log : goal.invariant-loop-log
invariant-loop-log l = l.follows.items ≡ map new_follow (take l.log-index l.logs)
