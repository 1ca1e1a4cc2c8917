-- The packets so far were taken, and all that goes out for each was put before the next.
use Rattle.std.proofs.Common.{◌≡◌, ◌≤◌}
use Rattle.tk_serve.proofs.CourseLaws.{IsRunning}
use Rattle.tk_serve.proofs.serving.serve_clients.Given as goal

abbrev pub invariant-packets : goal.invariant-packets
invariant-packets g l = record {
  same : l.server.shape ≡ l.initial.server.shape;
  runs : IsRunning l.initial.server.shape l.counter l.server (g.L.Line.left l.initial.line)
      (g.L.Line.left l.line) (g.L.Line.gone l.initial.line) (g.L.Line.gone l.line);
  reads : g.L.Line.read_faults l.initial.line ≤ g.L.Line.read_faults l.line;
  puts : g.L.Line.write_faults l.initial.line ≤ g.L.Line.write_faults l.line;
}
