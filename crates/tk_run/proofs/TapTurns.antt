-- What taps gain, turn after turn of a run of threads.
use Rattle.std.proofs.Common.{◌≡◌, ℕ, ◌+◌, ◌-◌, ◌<◌, ◌≤◌, List, [], length, ap, ◌∙◌, subst, arith, Option}
use Rattle.std.specs.Prelude.{slice_index_or}
use mathlib.Core.List.{IsPrefix}
use Rattle.tk_shape.specs.declared.shape.Shape.{Shape}
use Rattle.tk_shape.specs.Lengths.{turn_count}
use Rattle.tk_schedule.specs.declared.history.TurnOrder.{TurnOrder}
use Rattle.tk_schedule.specs.declared.history.History.{History}
use Rattle.tk_script.specs.declared.script.Script.{Script}
use Rattle.tk_words.specs.Words.{WordBook}
use Rattle.tk_io.specs.Tapped.{GainsFront, TapsGain, TapsGainFronts, TapsKeepBut}
use Rattle.tk_io.proofs.Offers.{taps-same}
use Rattle.tk_order.proofs.Offers.{prefix_trans}
use Rattle.tk_report.specs.Exchange.{bytes_of}
use Rattle.tk_report.specs.Serving.{Serving, exchange_under, read_replied}
use Rattle.tk_run.specs.Under.{turn_under, seen_under}
use Rattle.tk_run.specs.Courses.{GoesOn, AreSights}
use Rattle.tk_run.proofs.SeenLaws.{taps-first, taps-next, taps-all, fronts-next}

abbrev Taps : Type 0
Taps = ℕ → Option (List ℕ)

-- what goes on from more turns goes on from fewer
pub goes_on_before : {shape : Shape} {after : List TurnOrder} {H : History} (before : List TurnOrder) →
    IsPrefix before after → GoesOn shape after H → GoesOn shape before H
goes_on_before {shape} {after} {H} before p goes =
    record { legal = goes.legal; begins = prefix_trans before after H p goes.begins }

-- ---- a turn

-- what lies at the place of a server
abbrev pub sight_at : List (List ℕ) → ℕ → List ℕ
sight_at sights j = slice_index_or sights (j - 1) []

module _ {S : Script} {b : WordBook} {H : History} {V : Serving} {g : ℕ} {sights : List (List ℕ)}
    (are : AreSights S b H V g sights) where
  sight_is : (j : ℕ) → 1 ≤ j → j ≤ S.shape.servers → sight_at sights j ≡ turn_under S b H V g j
  sight_is j low high =
      let number : j - 1 + 1 ≡ j = omega (arith, low) in
      are.each (j - 1) [] (omega (arith, low, high, are.counted))
      ∙ ap (turn_under S b H V g) number

  -- taps that gain what was seen of a turn
  pub sights_gain : (old new : Taps) → TapsGain (length sights) (sight_at sights) old new →
      TapsGain S.shape.servers (turn_under S b H V g) old new
  sights_gain old new gain =
      taps-same S.shape.servers (sight_at sights) (turn_under S b H V g) old new sight_is
      (subst (λ n. TapsGain n (sight_at sights) old new) are.counted gain)

  -- and taps that gain fronts of it
  pub sights_fronts : (old new : Taps) →
      TapsGainFronts (length sights) (sight_at sights) old new →
      TapsGainFronts S.shape.servers (turn_under S b H V g) old new
  sights_fronts old new gain j low high =
      subst (GainsFront (old j) (new j)) (sight_is j low high)
      (gain j low (omega (arith, high, are.counted)))

  pub sights_keep : (old new : Taps) → TapsKeepBut (length sights) old new →
      TapsKeepBut S.shape.servers old new
  sights_keep old new keep = subst (λ n. TapsKeepBut n old new) are.counted keep

-- ---- the turns so far

-- however the run goes on from these turns, the taps gained what is seen before turn g
pub record GainedBefore (S : Script) (b : WordBook) (V : History → Serving) (g : ℕ)
    (turns : List TurnOrder) (old new : Taps) : Type 0 where
  pub in_each : (H : History) → GoesOn S.shape turns H →
      TapsGain S.shape.servers (seen_under S b H (V H) g) old new

pub gained_first : (S : Script) (b : WordBook) (V : History → Serving) (turns : List TurnOrder)
    (taps : Taps) → GainedBefore S b V 0 turns taps taps
gained_first S b V turns taps =
    record { in_each = λ H goes. taps-first S b H (read_replied S b H (V H)) taps }

module _ {S : Script} {b : WordBook} {V : History → Serving} {g : ℕ} {before : List TurnOrder}
    {old now : Taps} (so_far : GainedBefore S b V g before old now) where
  pub gained_next : {after : List TurnOrder} {new : Taps} → IsPrefix before after →
      ((H : History) → GoesOn S.shape after H →
      TapsGain S.shape.servers (turn_under S b H (V H) g) now new) →
      GainedBefore S b V (g + 1) after old new
  gained_next {after} {new} p turn =
      record {
        in_each = λ H goes. taps-next S b H (read_replied S b H (V H)) g old now new
            (so_far.in_each H (goes_on_before before p goes)) (turn H goes);
      }

  -- after all turns it is the whole exchange
  pub gained_all : g ≡ turn_count S.shape → (H : History) → GoesOn S.shape before H →
      TapsGain S.shape.servers (λ (j : ℕ). bytes_of (exchange_under S b H (V H) j)) old now
  gained_all all H goes = taps-all S b H (read_replied S b H (V H)) g old now all (so_far.in_each H goes)

  -- where a turn stopped, a front of it
  pub gained_fronts : (H : History) (new : Taps) → g < turn_count S.shape → GoesOn S.shape before H →
      TapsGainFronts S.shape.servers (turn_under S b H (V H) g) now new →
      TapsGainFronts S.shape.servers (λ (j : ℕ). bytes_of (exchange_under S b H (V H) j)) old new
  gained_fronts H new low goes turn = fronts-next S b H (read_replied S b H (V H)) g old now new low (so_far.in_each H goes) turn
