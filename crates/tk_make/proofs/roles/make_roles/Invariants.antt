-- The roles of the logs so far are made.
use Rattle.std.proofs.Common.{◌≡◌, map}
use Rattle.std.specs.List.{range_with_len}
use Rattle.tk_make.specs.Making.{made_role}
use Rattle.tk_make.proofs.roles.make_roles.Given as goal

abbrev pub invariant-loop-log : goal.invariant-loop-log
invariant-loop-log l = l.roles.items ≡ map made_role (range_with_len 0 l.log)
