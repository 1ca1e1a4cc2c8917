-- What is retained is in the order of the records.
use Rattle.std.proofs.Common.{ℕ, ◌+◌, inl, inr, sym, subst, arith, List, [], ◌∷◌, ◌++◌, Bool, true}
use Rattle.std.proofs.Common.{false, cond, ◌≤◌, filter, append_assoc, append-nil}
use Rattle.tk_shape.specs.declared.shape.Shape.{Shape}
use Rattle.tk_frames.specs.Order.{Record}
use Rattle.tk_table.specs.Ordered.{AscendFrom}
use Rattle.tk_table.specs.Table.{window, has_position, unexpired, fit_together, retained_with, retained}
use Rattle.tk_frames.specs.Lists.{IsIn}
use Rattle.tk_table.proofs.OneMore.{retained-append, retained-none, by_one_more}

-- what ascends from a number ascends from a lower one
pub ascend-lower : (p q : ℕ) (R : List Record) → p ≤ q → AscendFrom q R → AscendFrom p R
ascend-lower p q [] lower h = tt
ascend-lower p q (r ∷ R) lower h = (omega (arith, lower, h.0), h.1)

ascend-filter : (test : Record → Bool) (p : ℕ) (K rest : List Record) → AscendFrom p (K ++ rest) →
    AscendFrom p (filter test K ++ rest)
ascend-filter test p [] rest h = h
ascend-filter test p (r ∷ K) rest h =
    let later = ascend-filter test (r.position + 1) K rest h.1 in
    elim (test r) as (λ b. AscendFrom p (cond b (r ∷ filter test K) (filter test K) ++ rest)) [
      | true ↦ (h.0, later)
      | false ↦ ascend-lower p (r.position + 1) (filter test K ++ rest) (omega (arith, h.0)) later
    ]

ascend-without : (p : ℕ) (K : List Record) (w : Record) (rest : List Record) →
    AscendFrom p (K ++ w ∷ rest) → AscendFrom p (K ++ rest)
ascend-without p [] w rest h = ascend-lower p (w.position + 1) rest (omega (arith, h.0)) h.1
ascend-without p (r ∷ K) w rest h = (h.0, ascend-without (r.position + 1) K w rest h.1)

pub ascend-front : (p : ℕ) (R : List Record) (w : Record) → AscendFrom p (R ++ w ∷ []) →
    AscendFrom p R
ascend-front p [] w h = tt
ascend-front p (r ∷ R) w h = (h.0, ascend-front (r.position + 1) R w h.1)

pub ascend-last : (p : ℕ) (R : List Record) (w : Record) → AscendFrom p (R ++ w ∷ []) →
    p ≤ w.position
ascend-last p [] w h = h.0
ascend-last p (r ∷ R) w h = let behind =
    ascend-last (r.position + 1) R w h.1 in omega (arith, h.0, behind)

pub ascend-above : (p : ℕ) (K : List Record) (r : Record) → AscendFrom p K → IsIn K r →
    p ≤ r.position
ascend-above p [] r h there = absurd there
ascend-above p (k ∷ K) r h (inl e) = subst (λ v. p ≤ v.position) e h.0
ascend-above p (k ∷ K) r h (inr there) = let later =
    ascend-above (k.position + 1) K r h.1 there in omega (arith, h.0, later)

-- ---- what is retained

retained_with-ascend : (shape : Shape) (R K : List Record) (w : Record) (p : ℕ)
    (rest : List Record) →
    AscendFrom p (K ++ w ∷ rest) → AscendFrom p (retained_with shape R K w ++ rest)
unfolding retained_with
retained_with-ascend shape R K w p rest h =
    let kept = unexpired shape R w K in
    let in_order : AscendFrom p (kept ++ w ∷ rest) =
    ascend-filter (λ r. has_position (window shape (R ++ w ∷ [])) r.position) p K
    (w ∷ rest) h in
    elim (fit_together shape (kept ++ w ∷ [])) as
    (λ b. AscendFrom p (cond b (kept ++ w ∷ []) kept ++ rest)) [
      | true ↦ subst (λ rs. AscendFrom p rs) (sym (append_assoc kept (w ∷ []) rest)) in_order
      | false ↦ ascend-without p kept w rest in_order
    ]

retained-ascend-before : (shape : Shape) (p : ℕ) (R rest : List Record) → AscendFrom p (R ++ rest) →
    AscendFrom p (retained shape R ++ rest)
retained-ascend-before shape p =
    by_one_more (λ R. (rest : List Record) → AscendFrom p (R ++ rest) →
    AscendFrom p (retained shape R ++ rest))
    (λ rest h. subst (λ rs. AscendFrom p (rs ++ rest)) (sym (retained-none shape)) h)
    (λ R w before rest h.
    subst (λ rs. AscendFrom p (rs ++ rest)) (sym (retained-append shape R w))
    (retained_with-ascend shape R (retained shape R) w p rest
    (before (w ∷ rest) (subst (λ rs. AscendFrom p rs) (append_assoc R (w ∷ []) rest) h))))

-- the retained records are in the order of the records
pub retained-ascend : (shape : Shape) (p : ℕ) (R : List Record) → AscendFrom p R →
    AscendFrom p (retained shape R)
retained-ascend shape p R h =
    subst (λ rs. AscendFrom p rs) (append-nil (retained shape R))
    (retained-ascend-before shape p R [] (subst (λ rs. AscendFrom p rs) (sym (append-nil R)) h))
