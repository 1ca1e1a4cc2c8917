-- The taps so far have what their servers saw.
use Rattle.std.proofs.Common.{◌≤◌, ◌-◌, [], ℕ}
use Rattle.std.specs.Prelude.{slice_index_or}
use Rattle.tk_io.specs.Tapped.{TapsGain, TapsKeepBut}
use Rattle.tk_relay.proofs.frames_seen.give_sights.Given as goal

abbrev pub invariant-giving : goal.invariant-giving
invariant-giving g l =
    record {
      gave : TapsGain l.i (λ (j : ℕ). slice_index_or l.sights (j - 1) [])
          (g.T.Taps.tap l.fn.taps) (g.T.Taps.tap l.taps);
      others : TapsKeepBut l.i (g.T.Taps.tap l.fn.taps) (g.T.Taps.tap l.taps);
      counts : g.T.Taps.faults l.fn.taps ≤ g.T.Taps.faults l.taps;
    }
