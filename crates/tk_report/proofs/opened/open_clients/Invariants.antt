-- As many clients are open as the loop has counted.
use Rattle.std.proofs.Common.{◌≡◌, length}
use Rattle.tk_report.proofs.ClientsLaws.{AreSoFar, opened}
use Rattle.tk_report.proofs.opened.open_clients.Given as goal

abbrev pub invariant-loop-number : goal.invariant-loop-number
invariant-loop-number l =
    record {
      counted : length l.clients.items ≡ l.number;
      each : AreSoFar (opened l.script) l.clients.items;
    }
