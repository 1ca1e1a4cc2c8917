-- No line so far is an End.
use Rattle.std.proofs.Common.{IsTrue}
use Rattle.std.specs.Prelude.{not}
use Rattle.std.specs.List.{list_all}
use Rattle.tk_schedule.specs.Raw.{is_end}
use Rattle.tk_schedule_tests.proofs.told_tests.lines_of.Given as goal

abbrev pub invariant-loop-one : goal.invariant-loop-one
invariant-loop-one l = IsTrue (list_all (λ r. not (is_end r.kind)) l.lines.items)
