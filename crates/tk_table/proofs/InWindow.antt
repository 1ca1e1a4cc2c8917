-- Each retained record is in the window.
use Rattle.std.proofs.Common.{◌≡◌, ◌+◌, refl, ap, ◌∙◌, arith, List, [], ◌∷◌, ◌++◌, length, Bool}
use Rattle.std.proofs.Common.{true, false, cond, ◌||◌, eq-eqb, ◌≤◌, filter, ◌-◌, drop}
use Rattle.std.specs.Prelude.{◌==◌}
use Rattle.std.specs.List.{list_any, list_all}
use Rattle.std.proofs.lemmas.Bool.{or_left, and_from}
use Rattle.std.proofs.lemmas.List.{length-append, drop-append-le}
use Rattle.std.proofs.lemmas.List.Folds.{list_all-append}
use Rattle.tk_shape.specs.declared.shape.Shape.{Shape}
use Rattle.tk_frames.specs.Order.{Record}
use Rattle.tk_table.specs.Table.{window, has_position, unexpired, fit_together, retained_with, retained}
use Rattle.tk_table.specs.Laws.{RetainedInWindow}
use Rattle.tk_table.proofs.OneMore.{retained-append, retained-none, by_one_more}

list_all-filter : {X : Type 0} (test : X → Bool) (xs : List X) →
    list_all test (filter test xs) ≡ true
list_all-filter test [] = refl
list_all-filter test (x ∷ xs) =
    elim (test x) as (λ b. test x ≡ b →
    list_all test (cond b (x ∷ filter test xs) (filter test xs)) ≡ true) [
      | true ↦ λ e. and_from (test x) (list_all test (filter test xs)) e (list_all-filter test xs)
      | false ↦ λ _. list_all-filter test xs
    ] refl

list_any-last : {X : Type 0} (test : X → Bool) (xs : List X) (x : X) → test x ≡ true →
    list_any test (xs ++ x ∷ []) ≡ true
list_any-last test [] x e = or_left (test x) false e
list_any-last test (y ∷ xs) x e =
    elim (test y) as (λ b. (b || list_any test (xs ++ x ∷ [])) ≡ true) [
      | true ↦ refl
      | false ↦ list_any-last test xs x e
    ]

-- the window when one more write comes
pub window-append : (shape : Shape) (R : List Record) (w : Record) →
    window shape (R ++ w ∷ []) ≡ drop (length R + 1 - shape.retained) R ++ w ∷ []
window-append shape R w =
    let low : 1 ≤ shape.retained = shape.in_range.retained_low in
    ap (λ n. drop (n - shape.retained) (R ++ w ∷ [])) (length-append R (w ∷ []))
    ∙ drop-append-le (length R + 1 - shape.retained) R (w ∷ []) (omega arith)

in_own_window : (shape : Shape) (R : List Record) (w : Record) →
    has_position (window shape (R ++ w ∷ [])) w.position ≡ true
in_own_window shape R w =
    ap (λ rs. has_position rs w.position) (window-append shape R w)
    ∙ list_any-last (λ r. w.position == r.position) (drop (length R + 1 - shape.retained) R) w
    (eq-eqb w.position w.position refl)

-- what is kept beside a new write is in the new window, and so is the write
retained_with-in_window : (shape : Shape) (R K : List Record) (w : Record) →
    list_all (λ r. has_position (window shape (R ++ w ∷ [])) r.position)
    (retained_with shape R K w) ≡ true
unfolding retained_with
retained_with-in_window shape R K w =
    let kept = unexpired shape R w K in
    elim (fit_together shape (kept ++ w ∷ [])) as
    (λ b. list_all inside (cond b (kept ++ w ∷ []) kept) ≡ true) [
      | true ↦ list_all-append inside kept (w ∷ [])
          ∙ and_from (list_all inside kept) (list_all inside (w ∷ [])) (list_all-filter inside K)
          (and_from (inside w) true (in_own_window shape R w) refl)
      | false ↦ list_all-filter inside K
    ]
  where
    inside : Record → Bool
    inside r = has_position (window shape (R ++ w ∷ [])) r.position

pub retained-in_window : RetainedInWindow
retained-in_window shape =
    by_one_more (λ R. list_all (λ r. has_position (window shape R) r.position)
    (retained shape R) ≡ true)
    (ap (list_all (λ r. has_position (window shape []) r.position)) (retained-none shape))
    (λ R w _. ap (list_all (λ r. has_position (window shape (R ++ w ∷ [])) r.position))
    (retained-append shape R w) ∙ retained_with-in_window shape R (retained shape R) w)
