-- As many servers are open as the loop has counted.
use Rattle.std.proofs.Common.{◌≡◌, [], length}
use Rattle.std.specs.Prelude.{All}
use Rattle.tk_run.specs.Servers.{IsServerAt, IsReadyServer}
use Rattle.tk_run.proofs.servers.open_servers.Given as goal

abbrev pub invariant-loop : goal.invariant-loop
invariant-loop l =
    record {
      counted : length l.servers.items ≡ l.counter;
      opened : All (IsServerAt l.shape [] []) l.servers.items;
      ready : All (IsReadyServer l.shape []) l.servers.items;
    }
