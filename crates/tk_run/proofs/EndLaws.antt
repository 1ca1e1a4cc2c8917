-- A run whose servers begin anew from their own checkpoint, at its end.
use Rattle.std.proofs.Common.{◌≡◌, refl, ap, subst, ◌∙◌, arith, inl, ℕ, List}
use Rattle.std.specs.Prelude.{Option}
use Rattle.tk_io.specs.Tapped.{TapsGain, TapsGainFronts}
use Rattle.tk_io.proofs.Offers.{taps-same}
use Rattle.tk_shape.specs.Lengths.{turn_count}
use Rattle.tk_schedule.specs.declared.history.History.{History}
use Rattle.tk_schedule.specs.Schedule.{IsLegal}
use Rattle.tk_script.specs.declared.script.Script.{Script}
use Rattle.tk_words.specs.Words.{WordBook, IsBook, words_of}
use Rattle.tk_frames.specs.declared.entry.Placed.{Placed}
use Rattle.tk_client.specs.Reader.{Reader}
use Rattle.tk_report.specs.Clients.{client_before, client_knowing, idle}
use Rattle.tk_report.specs.Displaced.{displaced_in}
use Rattle.tk_report.specs.Exchange.{exchange, bytes_of}
use Rattle.tk_report.specs.Outcomes.{HasEnded}
use Rattle.tk_report.specs.Queues.{writing_before}
use Rattle.tk_report.specs.Serving.{exchange_under}
use Rattle.tk_report.specs.Turns.{placed_before}
use Rattle.tk_report.proofs.Offers.{anew-from-own, anew-readers}
use Rattle.tk_run.specs.Keeping.{AreGiven, IsEndUnder, begun_anew, held_now, saved_before}
use Rattle.tk_run.specs.declared.ended.Ended.{Ended}
use Rattle.tk_run.proofs.HoldingLaws.{held-own}

module _ (S : Script) (b : WordBook) (H : History) (due : ℕ) where
  -- each is given the checkpoint of the entries so far
  abbrev pub own : ℕ → List Placed
  own i = placed_before S (words_of S.shape b) H due

  pub own-given : (gives : ℕ → List ℕ) → ((j : ℕ) → gives j ≡ saved_before S b H due) →
      AreGiven S.shape (placed_before S (words_of S.shape b) H due) gives own
  own-given gives is j low high = record { saved = is j; stands = inl refl }

  own-bytes : (j : ℕ) → IsBook S.shape b → IsLegal S.shape H →
      bytes_of (exchange_under S b H (begun_anew S b H due own) j) ≡ bytes_of (exchange S b H j)
  own-bytes j serves legal = ap bytes_of (anew-from-own S b H due j own serves legal (λ i. refl)).0

  -- so taps gain what they gain in the run
  pub own-gain : (old new : ℕ → Option (List ℕ)) → IsBook S.shape b → IsLegal S.shape H →
      TapsGain S.shape.servers
      (λ (j : ℕ). bytes_of (exchange_under S b H (begun_anew S b H due own) j)) old new →
      TapsGain S.shape.servers (λ (j : ℕ). bytes_of (exchange S b H j)) old new
  own-gain old new serves legal gain =
      taps-same S.shape.servers
      (λ (j : ℕ). bytes_of (exchange_under S b H (begun_anew S b H due own) j))
      (λ (j : ℕ). bytes_of (exchange S b H j)) old new (λ j low high. own-bytes j serves legal) gain

  pub own-fronts : (old new : ℕ → Option (List ℕ)) → IsBook S.shape b → IsLegal S.shape H →
      TapsGainFronts S.shape.servers
      (λ (j : ℕ). bytes_of (exchange_under S b H (begun_anew S b H due own) j)) old new →
      TapsGainFronts S.shape.servers (λ (j : ℕ). bytes_of (exchange S b H j)) old new
  own-fronts old new serves legal fronts =
      subst (λ (seen : ℕ → List ℕ). TapsGainFronts S.shape.servers seen old new)
      (λ i j. own-bytes j serves legal i) fronts

  -- and it has ended as the run does
  pub own-end : (end : Ended) → IsBook S.shape b → IsLegal S.shape H →
      IsEndUnder S b H (begun_anew S b H due own)
      (held_now S (words_of S.shape b) H due own (turn_count S.shape) 1) end →
      HasEnded S (words_of S.shape b) H end.clients.items end.displaced
  unfolding client_knowing client_before
  own-end end serves legal is =
      record {
        legal = legal;
        clients = record {
          counted = is.clients.counted;
          each = λ c d within.
              is.clients.each c d within
              ∙ ap (λ (r : Reader). idle S.shape c (writing_before S c (turn_count S.shape)) r)
              (anew-readers S b H due own c (turn_count S.shape) serves legal (λ i. refl)
              (omega (arith, within, is.clients.counted)) (omega arith));
        };
        displaced =
            is.displaced
            ∙ ap (displaced_in S.shape) (held-own S b H due (turn_count S.shape) 1);
      }
