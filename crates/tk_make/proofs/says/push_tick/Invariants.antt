-- What is said on the logs so far stands after what was there.
use Rattle.std.proofs.Common.{◌≡◌, ◌++◌, map, filter}
use Rattle.std.specs.List.{range_with_len}
use Rattle.tk_make.specs.Making.{is_said, made_say}
use Rattle.tk_make.proofs.says.push_tick.Given as goal

abbrev pub invariant-loop-log : goal.invariant-loop-log
invariant-loop-log l =
    let said = filter (is_said l.number l.when.0 l.when.1) (range_with_len 0 l.log) in
    l.says.items ≡ l.fn.says.items ++ map (made_say l.when.0 l.when.1) said
