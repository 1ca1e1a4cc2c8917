-- Before each turn all is as the definitions say of it, and the taps gained what the servers saw.
use Rattle.std.proofs.Common.{◌≡◌, ◌≤◌, ◌++◌}
use Rattle.tk_io.specs.Tapped.{TapsGain, TapsKeepBut}
use Rattle.tk_run.specs.Keeping.{begun_anew}
use Rattle.tk_run.specs.Resumption.{AllAccept, GivenBy, IsRunAnew, OnceOpen, anew_of, due_in, kept_by}
use Rattle.tk_run.specs.Under.{IsRunning, seen_under}
use Rattle.tk_run.proofs.turns.take_all_turns.Given as goal

abbrev pub invariant-turns : goal.invariant-turns
invariant-turns g l =
    let S = l.plan.script.now in
    let book = g.D.Draws.book l.plan.draws.now in
    let H = l.plan.history.now in
    let anew = anew_of l.plan l.due in
    let tap = g.T.Taps.tap in
    record {
      kept : OnceOpen anew (g.K.Keeper.kept l.fn.keeper)
          (λ first. g.K.Keeper.kept l.keeper ≡ first ++ kept_by anew l.turn);
      accepted : due_in anew ≤ l.turn → AllAccept anew (g.K.Keeper.gives l.keeper);
      running : IsRunning S book H l.turn l.run;
      run : GivenBy anew l.turn (g.K.Keeper.gives l.keeper)
          (λ given. IsRunAnew anew given l.turn l.run);
      taps : GivenBy anew l.turn (g.K.Keeper.gives l.keeper) (λ given. TapsGain S.shape.servers
          (seen_under S book H (begun_anew S book H (due_in anew) given) l.turn)
          (tap l.fn.taps) (tap l.taps));
      others : TapsKeepBut S.shape.servers (tap l.fn.taps) (tap l.taps);
      counts : g.T.Taps.faults l.fn.taps ≤ g.T.Taps.faults l.taps;
    }
