-- Numbers of turns, and lists of turns with one more after.
use Rattle.std.proofs.Common.{◌≡◌, ℕ, zero, suc, ◌+◌, ◌*◌, ◌/◌, ◌<◌}
use Rattle.std.proofs.Common.{List, [], ◌∷◌, ◌++◌, length, refl, ap, sym, ◌∙◌, arith, suc-mul}
use Rattle.std.proofs.Common.{length-append, append-nil}
use Rattle.std.specs.Prelude.{slice_index, slice_index_or}
use Rattle.std.proofs.lemmas.Nat.{div-mul-add}
use Rattle.std.proofs.Math.Nat.{zero-mul}
use Rattle.tk_shape.specs.declared.shape.Shape.{Shape}
use Rattle.tk_frames.specs.declared.write_frame.WriteFrame.{WriteFrame}
use Rattle.tk_frames.specs.declared.entry.Placed.{Placed}
use Rattle.tk_schedule.specs.declared.history.TurnOrder.{TurnOrder}
use Rattle.tk_schedule.specs.Schedule.{blank_turn, IsTurn, phases_over, order_at}
use Rattle.tk_report.specs.Entries.{placed_after, entries_before}
use Rattle.tk_report.specs.Agreement.{SameOrders}
use Rattle.tk_report.proofs.Offers.{fronts-agree, entries-agree, length-placed_from, phases-next}
use Rattle.tk_run.specs.Ran.{epochs_in}

-- ---- numbers

pub over_first : (shape : Shape) → phases_over shape 0 ≡ 0
over_first shape =
    let nothing : 0 * shape.ticks + 0 ≡ 0 = omega (arith, zero-mul shape.ticks) in
    ap (λ n. n / shape.ticks) (sym nothing) ∙ div-mul-add 0 shape.ticks 0 shape.in_range.ticks_low

-- ---- lists of turns

pub index_mid : (xs : List ℕ) (y : ℕ) (ys : List ℕ) → slice_index (xs ++ y ∷ ys) (length xs) ≡ y
index_mid [] y ys = refl
index_mid (x ∷ xs) y ys = index_mid xs y ys

pub turns_more : (P : ℕ → TurnOrder → Type 0) (K : List TurnOrder) (t : TurnOrder) →
    ((k : ℕ) → k < length K → P k (slice_index_or K k blank_turn)) → P (length K) t → (k : ℕ) →
    k < length K + 1 → P k (slice_index_or (K ++ t ∷ []) k blank_turn)
turns_more P [] t f last zero low = last
turns_more P [] t f last (suc k) low = absurd (omega (arith, low))
turns_more P (x ∷ K) t f last zero low = f 0 (omega arith)
turns_more P (x ∷ K) t f last (suc k) low =
    turns_more (λ j. P (suc j)) K t (λ j l. f (suc j) (omega (arith, l))) last k
    (omega (arith, low))

pub turn_last : (K : List TurnOrder) (t : TurnOrder) (more : List TurnOrder) →
    slice_index_or (K ++ t ∷ more) (length K) blank_turn ≡ t
turn_last [] t more = refl
turn_last (x ∷ K) t more = turn_last K t more

pub epochs_more : (K : List TurnOrder) (t : TurnOrder) (c : ℕ) →
    epochs_in (K ++ t ∷ []) c ≡ epochs_in K c ++ slice_index t.epochs c ∷ []
epochs_more [] t c = refl
epochs_more (x ∷ K) t c = ap (λ ys. slice_index x.epochs c ∷ ys) (epochs_more K t c)

-- the orders of the turns so far, whatever follows
pub orders_front : (K more : List TurnOrder) → SameOrders (K ++ more) K (length K)
orders_front K more k low =
    let same = fronts-agree K more [] (length K) (omega arith) in
    same.0 k low ∙ ap (λ H. order_at H k) (append-nil K)

-- ---- entries

module _ (write : ℕ → ℕ → WriteFrame) where
  -- those of the turns so far, whatever follows
  pub entries_front : (K more : List TurnOrder) →
      entries_before write (K ++ more) (length K) ≡ entries_before write K (length K)
  entries_front K more = entries-agree write (K ++ more) K (length K) (orders_front K more)

  -- those of one turn more
  pub entries_more : (K : List TurnOrder) (t : TurnOrder) (E : List Placed) →
      E ≡ entries_before write K (length K) →
      entries_before write (K ++ t ∷ []) (suc (length K))
      ≡ E ++ placed_after (write (length K)) E t.order
  unfolding entries_before
  entries_more K t E is =
      let before : entries_before write (K ++ t ∷ []) (length K) ≡ E =
      entries_front K (t ∷ []) ∙ sym is
      in
      let last : order_at (K ++ t ∷ []) (length K) ≡ t.order =
      ap (λ (x : TurnOrder). x.order) (turn_last K t [])
      in
      λ i. before i ++ placed_after (write (length K)) (before i) (last i)

  -- how many there are
  pub entries_counted : (shape : Shape) (K : List TurnOrder) (g : ℕ) →
      ((k : ℕ) → k < g → IsTurn shape k (slice_index_or K k blank_turn)) →
      length (entries_before write K g) ≡ g * shape.clients + phases_over shape g
  unfolding entries_before
  entries_counted shape K zero turns = omega (arith, zero-mul shape.clients, over_first shape)
  entries_counted shape K (suc g) turns =
      let E = entries_before write K g in
      let here : length (placed_after (write g) E (order_at K g)) ≡ length (order_at K g) =
      length-placed_from (write g) _ _ (order_at K g)
      in
      let next : g + 1 ≡ suc g = omega arith in
      omega (
        arith,
        length-append E (placed_after (write g) E (order_at K g)),
        here,
        (turns g (omega arith)).counted,
        entries_counted shape K g (λ k low. turns k (omega (arith, low))),
        phases-next shape g,
        ap (phases_over shape) next,
        suc-mul g shape.clients,
      )
