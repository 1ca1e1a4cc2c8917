-- Whether a write of each client waits.
use Rattle.std.proofs.Common.{◌≡◌, ℕ, zero, suc, ◌+◌, ◌-◌, ◌<◌, ◌≤◌, refl, ap, ap₂, ◌∙◌, arith, inl, inr, true, false}
use Rattle.std.proofs.Common.{Bool, List, [], ◌∷◌, length, map, get_or}
use Rattle.std.specs.Prelude.{slice_index_or, nat_lt, ◌&&◌}
use Rattle.std.specs.List.{list_all}
use Rattle.std.proofs.lemmas.Bool.{cases_lt, lt-ltb, ltb-true}
use Rattle.std.proofs.lemmas.List.{length-drop, length-map, get_or-map}
use Rattle.tk_shape.specs.declared.shape.Shape.{Shape}
use Rattle.tk_serve.specs.Seats.{Seat, empty_seat, seat_of, AreSeats, turns_written}
use Rattle.tk_serve.specs.Desks.{DeskView, empty_desk, desk_by}
use Rattle.tk_serve.proofs.SeatLaws.{turns-below, turns-above}

abbrev pub waits : DeskView → Bool
waits d = nat_lt 0 (length d.waiting)

-- a test that all pass each passes, and the other way round
all-pass : {X : Type 0} (p : X → Bool) (xs : List X) (i : ℕ) (d : X) → list_all p xs ≡ true → i < length xs →
    p (get_or xs i d) ≡ true
all-pass p [] i d all low = absurd (omega (arith, low))
all-pass p (x ∷ xs) zero d all low =
    elim (p x) as (λ b. (b && list_all p xs) ≡ true → b ≡ true) [ true ↦ λ _. refl | false ↦ λ h. h ] all
all-pass p (x ∷ xs) (suc i) d all low =
    all-pass p xs i d
    (elim (p x) as (λ b. (b && list_all p xs) ≡ true → list_all p xs ≡ true)
    [ true ↦ λ h. h | false ↦ λ h. absurd (cc h) ] all)
    (omega (arith, low))

pass-all : {X : Type 0} (p : X → Bool) (xs : List X) (d : X) →
    ((i : ℕ) → i < length xs → p (get_or xs i d) ≡ true) → list_all p xs ≡ true
pass-all p [] d each = refl
pass-all p (x ∷ xs) d each =
    ap₂ (λ a b. a && b) (each 0 (omega arith))
    (pass-all p xs d (λ i low. each (suc i) (omega (arith, low))))

module _ (shape : Shape) (seats : List Seat) (g n : ℕ) (items : List DeskView) (are : AreSeats shape seats)
    (within : g ≤ turns_written shape seats) (desks : items ≡ map (desk_by shape g n) seats) where
  counted : length items ≡ length seats
  counted = ap length desks ∙ length-map seats (desk_by shape g n)

  waiting-at : (c : ℕ) → c < length seats →
      length (slice_index_or items c empty_desk).waiting ≡ length (seat_of seats c).writes - g
  waiting-at c low =
      ap (λ (d : DeskView). length d.waiting)
      (ap (λ ds. slice_index_or ds c empty_desk) desks
      ∙ get_or-map (desk_by shape g n) seats c empty_seat empty_desk low)
      ∙ length-drop g (seat_of seats c).writes

  -- where of each client one waits all have written a turn more
  pub complete-more : list_all waits items ≡ true → g < turns_written shape seats
  complete-more all =
      let each : (c : ℕ) → c < length seats → g + 1 ≤ length (seat_of seats c).writes = λ c low.
      let inside : c < length items = omega (arith, low, counted) in
      let some = ltb-true 0 _ (all-pass waits items c empty_desk all inside) in
      omega (arith, some, waiting-at c low)
      in
      let first : 0 < length seats = omega (arith, are.counted, shape.in_range.clients_low) in
      let most = (are.each 0 empty_seat first).few_writes in
      let more = turns-above shape seats (g + 1) (omega (arith, each 0 first, most)) each in
      omega (arith, more)

  -- and else they haven't
  pub incomplete-same : list_all waits items ≡ false → turns_written shape seats ≡ g
  incomplete-same none = elim (cases_lt g (turns_written shape seats)) [
    | inl more ↦
        let all : list_all waits items ≡ true = pass-all waits items empty_desk (λ c low.
        let there : c < length seats = omega (arith, low, counted) in
        lt-ltb 0 _ (omega (arith, waiting-at c there, turns-below shape seats c there, more)))
        in
        absurd (cc (all, none))
    | inr not_more ↦ omega (arith, not_more, within)
  ]
