-- Before each turn all is as the definitions say of it, and the taps gained what the servers saw.
use Rattle.std.proofs.Common.{◌≤◌}
use Rattle.tk_io.specs.Tapped.{TapsGain, TapsKeepBut}
use Rattle.tk_relay.specs.Running.{IsRunBefore}
use Rattle.tk_relay.proofs.SeenTurns.{seen_before}
use Rattle.tk_relay.proofs.turns.take_all_turns.Given as goal

abbrev pub invariant-turns : goal.invariant-turns
invariant-turns g l =
    let S = l.plan.script.now in
    let book = g.D.Draws.book l.plan.draws.now in
    let tap = g.T.Taps.tap in
    record {
      run : IsRunBefore g.B.Naming.shape S book l.plan.history.now l.turn l.run.group
          l.run.servers.passes.items l.run.servers.publisher l.run.servers.taken;
      taps : TapsGain S.shape.servers (seen_before S book l.seeds l.plan.history.now l.turn)
          (tap l.fn.taps) (tap l.taps);
      others : TapsKeepBut S.shape.servers (tap l.fn.taps) (tap l.taps);
      counts : g.T.Taps.faults l.fn.taps ≤ g.T.Taps.faults l.taps;
    }
