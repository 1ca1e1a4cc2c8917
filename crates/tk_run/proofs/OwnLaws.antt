-- A run of threads whose sums are those over all blocks.
use Rattle.std.proofs.Common.{◌≡◌, refl, ap, sym, subst, ◌∙◌, arith, ℕ, true, false, cond, List, Option}
use Rattle.std.specs.Prelude.{nat_le, Result}
use Rattle.std.specs.Result.{IsErrAnd}
use Rattle.std.proofs.lemmas.Result.{err_from_is_err_and}
use Rattle.tk_shape.specs.Lengths.{turn_count}
use Rattle.tk_kernel.specs.Chosen.{chosen_sum}
use Rattle.tk_schedule.specs.declared.history.History.{History}
use Rattle.tk_schedule.specs.Schedule.{IsLegal}
use Rattle.tk_script.specs.declared.script.Script.{Script}
use Rattle.tk_words.specs.Words.{WordBook, IsBook, words_of}
use Rattle.tk_client.specs.Client.{ClientState}
use Rattle.tk_client.specs.Reader.{Reader}
use Rattle.tk_io.specs.Tapped.{TapsGain, TapsGainFronts, TapsKeepBut}
use Rattle.tk_shards.specs.Shards.{Sharded}
use Rattle.tk_report.specs.declared.outcome.Outcome.{Outcome}
use Rattle.tk_report.specs.Anew.{Alike}
use Rattle.tk_report.specs.Clients.{AreClients, AreClientsAtEnd, client_before, client_knowing, idle}
use Rattle.tk_report.specs.Exchange.{exchange, bytes_of}
use Rattle.tk_report.specs.Outcomes.{HasEnded}
use Rattle.tk_report.specs.Queues.{writing_before}
use Rattle.tk_report.specs.Serving.{Serving, honest, exchange_under}
use Rattle.tk_report.proofs.Offers.{alike-runs, honest-exchange, honest-readers}
use Rattle.tk_cluster.specs.Closings.{Ended}
use Rattle.tk_run.specs.declared.closed_run.ClosedRun.{ClosedRun}
use Rattle.tk_run.specs.Ranged.{Summing}
use Rattle.tk_run.specs.Ranging.{even_ranges, sum_for, over_ranges}
use Rattle.tk_run.specs.Threads.{CameAbout, IsClosedRun}
use Rattle.tk_run.specs.Under.{client_under}
use Rattle.tk_run.proofs.RangedLaws.{ranged-alike}

module _ (S : Script) (b : WordBook) (H : History) (shards : ℕ) (sum : Summing)
    (own : (set : Sharded) (v : List ℕ) → sum set v ≡ chosen_sum set.width set.blocks v) where
  -- the servers of the run
  abbrev V : Serving
  V = over_ranges S b shards sum H

  own-sum : (set : Sharded) (v : List ℕ) →
      sum_for shards sum set v ≡ chosen_sum set.width set.blocks v
  own-sum set v =
      elim (nat_le shards 1) as
      (λ p. cond p (chosen_sum set.width set.blocks v) (sum set v)
      ≡ chosen_sum set.width set.blocks v)
      [ true ↦ refl | false ↦ own set v ]

  own-alike : Alike S V (honest S (words_of S.shape b) H)
  own-alike =
      ranged-alike S b H (even_ranges S.shape.buckets shards) (sum_for shards sum)
      (λ g c turn_in client_in v. own-sum _ v)

  own-bytes : (j : ℕ) → IsBook S.shape b → IsLegal S.shape H →
      bytes_of (exchange_under S b H V j) ≡ bytes_of (exchange S b H j)
  own-bytes j serves legal =
      ap bytes_of
      ((alike-runs S b H V (honest S (words_of S.shape b) H) own-alike).exchange j
      ∙ honest-exchange S b H j serves legal)

  -- taps gain what they gain in the run
  pub own-gain : (old new : ℕ → Option (List ℕ)) → IsBook S.shape b → IsLegal S.shape H →
      TapsGain S.shape.servers (λ (j : ℕ). bytes_of (exchange_under S b H V j)) old new →
      TapsGain S.shape.servers (λ (j : ℕ). bytes_of (exchange S b H j)) old new
  own-gain old new serves legal gain =
      subst (λ (seen : ℕ → List ℕ). TapsGain S.shape.servers seen old new)
      (λ i j. own-bytes j serves legal i) gain

  pub own-fronts : (old new : ℕ → Option (List ℕ)) → IsBook S.shape b → IsLegal S.shape H →
      TapsGainFronts S.shape.servers (λ (j : ℕ). bytes_of (exchange_under S b H V j)) old new →
      TapsGainFronts S.shape.servers (λ (j : ℕ). bytes_of (exchange S b H j)) old new
  own-fronts old new serves legal fronts =
      subst (λ (seen : ℕ → List ℕ). TapsGainFronts S.shape.servers seen old new)
      (λ i j. own-bytes j serves legal i) fronts

  own-clients : (clients : List ClientState) → IsBook S.shape b → IsLegal S.shape H →
      AreClients S.shape.clients (client_under S b H V (turn_count S.shape)) clients →
      AreClientsAtEnd S (words_of S.shape b) H clients
  unfolding client_knowing client_before
  own-clients clients serves legal are =
      let same = alike-runs S b H V (honest S (words_of S.shape b) H) own-alike in
      record {
        counted = are.counted;
        each = λ c d within.
            are.each c d within
            ∙ ap (λ (r : Reader). idle S.shape c (writing_before S c (turn_count S.shape)) r)
            (same.readers c (turn_count S.shape) (omega (arith, within, are.counted)) (omega arith)
            ∙ honest-readers S b H c (turn_count S.shape) serves legal
            (omega (arith, within, are.counted)) (omega arith));
      }

  -- and it has ended as the run does
  pub own-ended : (r : ClosedRun) → IsBook S.shape b → IsLegal S.shape H → IsClosedRun S b H V r →
      HasEnded S (words_of S.shape b) r.history r.clients.items r.displaced
  own-ended r serves legal is =
      subst (λ (K : History). HasEnded S (words_of S.shape b) K r.clients.items r.displaced)
      (sym is.history)
      (record {
        legal = legal;
        clients = own-clients r.clients.items serves legal is.clients;
        displaced = is.displaced;
      })

-- an error of the run leaves fronts of what its servers see
pub run_stopped : (S : Script) (b : WordBook) {E : Type 0} (Q : E → Type 0)
    (r : Result (Outcome × Ended) E) → IsErrAnd r Q → (old new : ℕ → Option (List ℕ))
    (H : History) → IsLegal S.shape H →
    TapsGainFronts S.shape.servers (λ (j : ℕ). bytes_of (exchange S b H j)) old new →
    TapsKeepBut S.shape.servers old new → CameAbout S b r old new
run_stopped S b {E} Q r is old new H legal fronts keep =
    subst (λ (x : Result (Outcome × Ended) E). CameAbout S b x old new)
    (sym (err_from_is_err_and {Q = Q} r is).1)
    (record {
      history = H;
      legal = legal;
      run = tt;
      taps = record { ok = tt; err = fronts; others = keep };
    })
