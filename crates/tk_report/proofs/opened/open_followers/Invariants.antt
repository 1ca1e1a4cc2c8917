-- As many are open as the loop has counted.
use Rattle.std.proofs.Common.{◌≡◌, length}
use Rattle.tk_client.specs.Looking.{new_follower}
use Rattle.tk_report.specs.Report.{follows_of}
use Rattle.tk_report.proofs.ClientsLaws.{AreSoFar}
use Rattle.tk_report.proofs.opened.open_followers.Given as goal

abbrev pub invariant-loop-number : goal.invariant-loop-number
invariant-loop-number l =
    record {
      counted : length l.followers.items ≡ l.number;
      each : AreSoFar (λ c. new_follower l.script.shape (follows_of l.script c)) l.followers.items;
    }
