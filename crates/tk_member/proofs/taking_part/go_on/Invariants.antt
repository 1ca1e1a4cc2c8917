-- Some packets were taken, and all that was sent for each was put before the next.
use Rattle.std.proofs.Common.{◌≡◌, ◌≤◌}
use Rattle.tk_words.specs.Words.{keyed}
use Rattle.tk_member.specs.Courses.{HasTaken}
use Rattle.tk_member.proofs.taking_part.go_on.Given as goal

abbrev pub invariant-packets : goal.invariant-packets
invariant-packets g l =
    let left = g.L.Line.left in
    let gone = g.L.Line.gone in
    record {
      same : l.member.client.shape ≡ l.fn.member.client.shape;
      reads_count : g.L.Line.read_faults l.fn.line ≤ g.L.Line.read_faults l.line;
      writes_count : g.L.Line.write_faults l.fn.line ≤ g.L.Line.write_faults l.line;
      so_far : HasTaken l.taken (keyed l.draws.handles.items l.draws.seeds.items) l.fn.member l.member
          (left l.fn.line) (left l.line) (gone l.fn.line) (gone l.line);
    }
