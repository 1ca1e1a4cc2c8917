-- The servers so far gave what they saw to their taps.
use Rattle.std.proofs.Common.{◌≡◌, ◌≤◌, length}
use Rattle.tk_run.proofs.GivingLaws.{GaveTo}
use Rattle.tk_run.proofs.taps.give_all.Given as goal

abbrev pub invariant-giving : goal.invariant-giving
invariant-giving g l =
    record {
      counted : length l.servers ≡ length l.fn.servers;
      gave : GaveTo l.i l.fn.servers l.servers (g.T.Taps.tap l.fn.taps) (g.T.Taps.tap l.taps);
      counts : g.T.Taps.faults l.fn.taps ≤ g.T.Taps.faults l.taps;
    }
