-- A run at its end, whose cluster is closed.
use Rattle.std.proofs.Common.{◌≡◌, ℕ, List, Option, ap, sym, ◌∙◌, subst}
use Rattle.tk_shape.specs.declared.shape.Shape.{Shape}
use Rattle.tk_shape.specs.Lengths.{turn_count}
use Rattle.tk_schedule.specs.declared.history.History.{History}
use Rattle.tk_schedule.specs.Schedule.{IsLegal}
use Rattle.tk_script.specs.declared.script.Script.{Script}
use Rattle.tk_words.specs.Words.{WordBook, words_of}
use Rattle.tk_frames.specs.InOrder.{IsOrder}
use Rattle.tk_report.specs.declared.group.Group.{Group}
use Rattle.tk_report.specs.Displaced.{displaced_in}
use Rattle.tk_report.specs.Exchange.{bytes_of}
use Rattle.tk_report.specs.Outcomes.{HasEnded}
use Rattle.tk_io.specs.Tapped.{TapsGain, TapsGainFronts}
use Rattle.tk_io.proofs.Offers.{fronts-of_all}
use Rattle.tk_cluster.specs.Passes.{Passing}
use Rattle.tk_cluster.specs.Tellings.{Telling}
use Rattle.tk_cluster.specs.Closings.{Ended, Closes}
use Rattle.tk_relay.specs.Relayed.{relayed_exchange}
use Rattle.tk_relay.specs.Running.{IsRunBefore}
use Rattle.tk_relay.proofs.OrderedLaws.{ordered-closed}

module _ {shape : Shape} {S : Script} {b : WordBook} {H : History} {group : Group}
    {xs : List Passing} {p : Telling} {n : ℕ} {closed : Ended}
    (run : IsRunBefore shape S b H (turn_count S.shape) group xs p n)
    (closes : Closes shape xs p closed) where
  pub closed-order : IsOrder S.shape closed.order
  closed-order = subst (λ (sh : Shape). IsOrder sh closed.order) (sym run.same) closes.legal.order

  pub run-ended : (count : ℕ) → IsLegal S.shape H → count ≡ displaced_in S.shape closed.order →
      HasEnded S (words_of S.shape b) H group.clients.items count
  run-ended count legal counted =
      record {
        legal = legal;
        clients = run.clients;
        displaced =
            counted ∙ ap (displaced_in S.shape) (ordered-closed run.ordered closed closes);
      }

-- what all taps gained of a run begins what they gain of it
pub all-given : (S : Script) (b : WordBook) (seeds : List (List ℕ)) (H is : History)
    (old new : ℕ → Option (List ℕ)) → H ≡ is →
    TapsGain S.shape.servers (λ j. bytes_of (relayed_exchange S b seeds H j)) old new →
    TapsGainFronts S.shape.servers (λ j. bytes_of (relayed_exchange S b seeds is j)) old new
all-given S b seeds H is old new same gain =
    fronts-of_all S.shape.servers (λ j. bytes_of (relayed_exchange S b seeds is j)) old new
    (subst (λ (h : History). TapsGain S.shape.servers
    (λ j. bytes_of (relayed_exchange S b seeds h j)) old new) same gain)
