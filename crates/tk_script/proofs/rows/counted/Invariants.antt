-- What is read so far is read of the lines before this one, one for each turn of the loop.
use Rattle.std.proofs.Common.{◌≡◌, ◌-◌, []}
use Rattle.tk_script.specs.Reading.{next_lines}
use Rattle.tk_script.specs.Stands.{stands}
use Rattle.tk_script.proofs.rows.counted.Given as goal

abbrev pub invariant-lines : goal.invariant-lines
invariant-lines g l = record {
  said : next_lines l.count (g.K.LineKind.reads l.kind) [] (stands l.start)
      ≡ next_lines (l.count - l.counter) (g.K.LineKind.reads l.kind) l.items.items
      (stands l.here);
}
