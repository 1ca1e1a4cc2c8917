-- What the turns of a run so far say of each legal history that begins with them.
use Rattle.std.proofs.Common.{◌≡◌, ℕ, ◌+◌, ◌-◌, ◌<◌, ◌≤◌, List, [], ◌∷◌, ◌++◌, length, map, refl, ap, sym, ◌∙◌, subst}
use Rattle.std.proofs.Common.{arith, length-append, append_assoc, inl, inr}
use Rattle.std.specs.Prelude.{slice_index_or}
use Rattle.std.specs.List.{range_with_len}
use Rattle.std.proofs.lemmas.Bool.{cases_lt}
use Rattle.std.proofs.lemmas.List.FromFn.{length-map-range_with_len, get_or-map-range_with_len}
use Rattle.std.proofs.lemmas.List.{get_or_append_left, get_or-append-add}
use mathlib.Core.List.{IsPrefix}
use Rattle.tk_shape.specs.declared.shape.Shape.{Shape}
use Rattle.tk_shape.specs.Lengths.{turn_count}
use Rattle.tk_frames.specs.declared.write_frame.WriteFrame.{WriteFrame}
use Rattle.tk_schedule.specs.declared.history.TurnOrder.{TurnOrder}
use Rattle.tk_schedule.specs.declared.history.History.{History}
use Rattle.tk_schedule.specs.Schedule.{blank_turn, IsTurn, IsLegal, serial_turn, serial_history}
use Rattle.tk_schedule.proofs.Offers.{serial-IsLegal}
use Rattle.tk_report.specs.Entries.{entries_before}
use Rattle.tk_run.proofs.TurnNumbers.{entries_front, turn_last}

-- the turns so far, and serial ones after
abbrev pub filled : Shape → List TurnOrder → History
filled shape K =
    K ++ map (serial_turn shape) (range_with_len (length K) (turn_count shape - length K))

filled_turn : (shape : Shape) (K : List TurnOrder) → length K ≤ turn_count shape →
    ((g : ℕ) → g < length K → IsTurn shape g (slice_index_or K g blank_turn)) → (g : ℕ) →
    g < turn_count shape → IsTurn shape g (slice_index_or (filled shape K) g blank_turn)
unfolding serial_history
filled_turn shape K within turns g low =
    let n = turn_count shape - length K in
    let more = map (serial_turn shape) (range_with_len (length K) n) in
    elim (cases_lt g (length K)) [
      | inl before ↦
          subst (IsTurn shape g) (sym (get_or_append_left K more blank_turn g before))
          (turns g before)
      | inr behind ↦
          let k = g - length K in
          let place : length K + k ≡ g = omega (arith, behind) in
          let inside : k < n = omega (arith, behind, low) in
          let at : slice_index_or (K ++ more) g blank_turn ≡ serial_turn shape g =
          ap (λ j. slice_index_or (K ++ more) j blank_turn) (sym place)
          ∙ (get_or-append-add K more k blank_turn
          ∙ get_or-map-range_with_len (serial_turn shape) (length K) n k g blank_turn inside place)
          in
          let alone : slice_index_or (serial_history shape) g blank_turn ≡ serial_turn shape g =
          get_or-map-range_with_len (serial_turn shape) 0 (turn_count shape) g g blank_turn low
          (omega arith)
          in
          subst (IsTurn shape g) (alone ∙ sym at) ((serial-IsLegal shape).each_turn g low)
    ]

-- it is legal if they are
pub filled_legal : (shape : Shape) (K : List TurnOrder) → length K ≤ turn_count shape →
    ((g : ℕ) → g < length K → IsTurn shape g (slice_index_or K g blank_turn)) →
    IsLegal shape (filled shape K)
filled_legal shape K within turns =
    let n = turn_count shape - length K in
    record {
      turns_counted =
          length-append K (map (serial_turn shape) (range_with_len (length K) n))
          ∙ omega (arith, within, length-map-range_with_len (serial_turn shape) (length K) n);
      each_turn = filled_turn shape K within turns;
    }

pub filled_begins : (shape : Shape) (K : List TurnOrder) → IsPrefix K (filled shape K)
filled_begins shape K =
    (map (serial_turn shape) (range_with_len (length K) (turn_count shape - length K)), refl)

-- a history that begins with one turn more begins with the turns before it
pub begins_before : (K : List TurnOrder) (t : TurnOrder) (H : History) →
    IsPrefix (K ++ t ∷ []) H → IsPrefix K H
begins_before K t H p = (t ∷ p.0, sym (append_assoc K (t ∷ []) p.0) ∙ p.1)

-- its entries begin with theirs
pub begins_entries : (write : ℕ → ℕ → WriteFrame) (K : List TurnOrder) (H : History) →
    IsPrefix K H → entries_before write H (length K) ≡ entries_before write K (length K)
begins_entries write K H p =
    ap (λ (x : History). entries_before write x (length K)) (sym p.1) ∙ entries_front write K p.0

-- and its turn is the one that came about
pub begins_turn : (K : List TurnOrder) (t : TurnOrder) (H : History) → IsPrefix (K ++ t ∷ []) H →
    slice_index_or H (length K) blank_turn ≡ t
begins_turn K t H p =
    ap (λ (x : History). slice_index_or x (length K) blank_turn)
    (sym p.1 ∙ append_assoc K (t ∷ []) p.0)
    ∙ turn_last K t p.0
