-- What is read so far is read of the lines before this one, and each line takes some of the text.
use Rattle.std.proofs.Common.{◌≡◌, [], length}
use Rattle.tk_script.specs.Grammar.{lines_of}
use Rattle.tk_script.specs.Reading.{to_end}
use Rattle.tk_script.proofs.rows.up_to_end.Given as goal

abbrev pub invariant-lines : goal.invariant-lines
invariant-lines g l = record {
  said : to_end (g.K.LineKind.reads l.kind) [] l.start.line (lines_of l.start.rest.now)
      ≡ to_end (g.K.LineKind.reads l.kind) l.items.items l.here.line (lines_of l.here.rest.now);
}

abbrev pub decreases-lines : goal.decreases-lines
decreases-lines g l = length l.here.rest.now
