-- The displaced writes of an order, one write after the other.
use Rattle.std.proofs.Common.{◌≡◌, ◌∙◌, ℕ, ◌+◌, ◌≤◌, refl, ap, arith}
use Rattle.std.proofs.Common.{Bool, true, false, cond, List, [], ◌∷◌, ◌++◌, length, append-nil, append_assoc}
use Rattle.std.specs.Prelude.{not}
use Rattle.tk_shape.specs.declared.shape.Shape.{Shape}
use Rattle.tk_frames.specs.Order.{Record}
use Rattle.tk_table.specs.Table.{fit_together, unexpired, retained_with, retained_on, retained, is_displaced}
use Rattle.tk_report.specs.Displaced.{displaced_on}

-- whether w finds no place after R, of which K is retained, as a number
abbrev without_place : Shape → List Record → List Record → Record → ℕ
without_place shape R K w = cond (fit_together shape (unexpired shape R w K ++ w ∷ [])) 0 1

on-more : (shape : Shape) (R K ws : List Record) (w : Record) →
    displaced_on shape R K (ws ++ w ∷ [])
    ≡ displaced_on shape R K ws + without_place shape (R ++ ws) (retained_on shape R K ws) w
unfolding displaced_on retained_on
on-more shape R K [] w =
    let all = ap (λ (rs : List Record). without_place shape rs K w) (append-nil R) in
    omega (arith, all)
on-more shape R K (v ∷ ws) w =
    let first = without_place shape R K v in
    let kept = retained_with shape R K v in
    let rest = displaced_on shape (R ++ v ∷ []) kept ws in
    let last = retained_on shape (R ++ v ∷ []) kept ws in
    let more = on-more shape (R ++ v ∷ []) kept ws w in
    let all = ap (λ (rs : List Record). without_place shape rs last w)
    (append_assoc R (v ∷ []) ws)
    in
    omega (arith, more, all)

-- none of no writes
pub none-displaced : (shape : Shape) → 0 ≡ displaced_on shape [] [] []
unfolding displaced_on
none-displaced shape = refl

turned : (fits : Bool) → cond {A = ℕ} fits 0 1 ≡ cond (not fits) 1 0
turned true = refl
turned false = refl

-- one more write
pub displaced-more : (shape : Shape) (R : List Record) (w : Record) →
    displaced_on shape [] [] (R ++ w ∷ [])
    ≡ displaced_on shape [] [] R + cond (is_displaced shape R w) 1 0
displaced-more shape R w =
    on-more shape [] [] R w
    ∙ ap (λ (n : ℕ). displaced_on shape [] [] R + n)
    (turned (fit_together shape (unexpired shape R w (retained shape R) ++ w ∷ [])))

no_more : (fits : Bool) → cond {A = ℕ} fits 0 1 ≤ 1
no_more true = omega arith
no_more false = omega arith

-- no more are displaced than there are
pub displaced-few : (shape : Shape) (R K ws : List Record) →
    displaced_on shape R K ws ≤ length ws
unfolding displaced_on
displaced-few shape R K [] = omega arith
displaced-few shape R K (w ∷ ws) =
    omega (
      arith,
      no_more (fit_together shape (unexpired shape R w K ++ w ∷ [])),
      displaced-few shape (R ++ w ∷ []) (retained_with shape R K w) ws,
    )
