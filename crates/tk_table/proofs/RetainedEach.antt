-- What each record has, each retained one has.
use Rattle.std.proofs.Common.{sym, subst, List, [], ◌∷◌, ◌++◌, true, false, cond}
use Rattle.std.specs.List.{AllByRecursion}
use Rattle.tk_shape.specs.declared.shape.Shape.{Shape}
use Rattle.tk_frames.specs.Order.{Record}
use Rattle.tk_table.specs.Table.{window, has_position, unexpired, fit_together, retained_with, retained}
use Rattle.tk_frames.proofs.Offers.{each-filter, each-push, each-split}
use Rattle.tk_table.proofs.OneMore.{retained-append, retained-none, by_one_more}

retained_with-each : (P : Record → Type 0) (shape : Shape) (R K : List Record) (w : Record) →
    AllByRecursion P K → P w → AllByRecursion P (retained_with shape R K w)
unfolding retained_with
retained_with-each P shape R K w h new =
    let kept = each-filter P (λ r. has_position (window shape (R ++ w ∷ [])) r.position) K h in
    elim (fit_together shape (unexpired shape R w K ++ w ∷ [])) as
    (λ b. AllByRecursion P (cond b (unexpired shape R w K ++ w ∷ []) (unexpired shape R w K)))
    [ true ↦ each-push P (unexpired shape R w K) w kept new | false ↦ kept ]

-- what each record has, each retained one has
pub retained-each : (P : Record → Type 0) (shape : Shape) (R : List Record) → AllByRecursion P R →
    AllByRecursion P (retained shape R)
retained-each P shape =
    by_one_more (λ R. AllByRecursion P R → AllByRecursion P (retained shape R))
    (λ _. subst (AllByRecursion P) (sym (retained-none shape)) tt)
    (λ R w before h.
    let parts = each-split P R w h in
    subst (AllByRecursion P) (sym (retained-append shape R w))
    (retained_with-each P shape R (retained shape R) w (before parts.0) parts.1))
