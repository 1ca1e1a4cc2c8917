-- Where a run of threads stops early.
use Rattle.std.proofs.Common.{ℕ, List, refl, sym, subst, Option}
use Rattle.std.specs.Prelude.{Result}
use Rattle.std.specs.Result.{IsErrAnd}
use Rattle.std.proofs.lemmas.Result.{err_from_is_err_and}
use Rattle.tk_schedule.specs.declared.history.TurnOrder.{TurnOrder}
use Rattle.tk_schedule.specs.declared.history.History.{History}
use Rattle.tk_schedule.specs.Schedule.{IsLegal, serial_history}
use Rattle.tk_schedule.proofs.Offers.{serial-IsLegal}
use Rattle.tk_script.specs.declared.script.Script.{Script}
use Rattle.tk_words.specs.Words.{WordBook}
use Rattle.tk_io.specs.Tapped.{TapsGainFronts, TapsKeepBut}
use Rattle.tk_report.specs.Exchange.{bytes_of}
use Rattle.tk_report.specs.Serving.{Serving, exchange_under}
use Rattle.tk_run.specs.declared.closed_run.ClosedRun.{ClosedRun}
use Rattle.tk_run.specs.Courses.{GoesOn, TapsAfterTurn, TapsAfterRun}
use Rattle.tk_run.specs.Threads.{CameAboutUnder}
use Rattle.tk_run.specs.Under.{turn_under}
use Rattle.tk_io.proofs.Offers.{fronts-none}

module _ (S : Script) (b : WordBook) (V : History → Serving) {X E : Type 0} (Q : E → Type 0)
    (r : Result X E) (is : IsErrAnd r Q) (old new : ℕ → Option (List ℕ)) where
  -- in a turn
  pub turn_stopped : (g : ℕ) (before after : List TurnOrder) (H : History) →
      GoesOn S.shape before H → TapsGainFronts S.shape.servers (turn_under S b H (V H) g) old new →
      TapsKeepBut S.shape.servers old new → TapsAfterTurn S b V g r before after old new
  turn_stopped g before after H goes fronts keep =
      subst (λ (x : Result X E). TapsAfterTurn S b V g x before after old new)
      (sym (err_from_is_err_and {Q = Q} r is).1)
      (record { ok = tt; err = (H, goes, fronts); others = keep })

  -- in one of its turns
  pub run_stopped : (after : List TurnOrder) (H : History) → IsLegal S.shape H →
      TapsGainFronts S.shape.servers (λ (j : ℕ). bytes_of (exchange_under S b H (V H) j)) old new →
      TapsKeepBut S.shape.servers old new → TapsAfterRun S b V r after old new
  run_stopped after H legal fronts keep =
      subst (λ (x : Result X E). TapsAfterRun S b V x after old new)
      (sym (err_from_is_err_and {Q = Q} r is).1)
      (record { ok = tt; err = (H, legal, fronts); others = keep })

-- and as a whole
pub came_stopped : (S : Script) (b : WordBook) (V : History → Serving) {E : Type 0}
    (Q : E → Type 0) (r : Result ClosedRun E) → IsErrAnd r Q → (old new : ℕ → Option (List ℕ))
    (H : History) → IsLegal S.shape H →
    TapsGainFronts S.shape.servers (λ (j : ℕ). bytes_of (exchange_under S b H (V H) j)) old new →
    TapsKeepBut S.shape.servers old new → CameAboutUnder S b V r old new
came_stopped S b V {E} Q r is old new H legal fronts keep =
    subst (λ (x : Result ClosedRun E). CameAboutUnder S b V x old new)
    (sym (err_from_is_err_and {Q = Q} r is).1)
    (record {
      history = H;
      legal = legal;
      run = tt;
      taps = record { ok = tt; err = fronts; others = keep };
    })

-- where nothing was given to any tap
pub came_nowhere : (S : Script) (b : WordBook) (V : History → Serving) {E : Type 0}
    (Q : E → Type 0) (r : Result ClosedRun E) → IsErrAnd r Q → (taps : ℕ → Option (List ℕ)) →
    CameAboutUnder S b V r taps taps
came_nowhere S b V {E} Q r is taps =
    let H = serial_history S.shape in
    came_stopped S b V Q r is taps taps H (serial-IsLegal S.shape)
    (fronts-none S.shape.servers (λ (j : ℕ). bytes_of (exchange_under S b H (V H) j)) taps) (λ j out. refl)
