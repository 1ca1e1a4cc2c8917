-- What is retained, and where it lies, when one more write comes.
use Rattle.std.proofs.Common.{◌≡◌, refl, ap, sym, ◌∙◌, List, [], ◌∷◌, ◌++◌, append_assoc, append-nil}
use Rattle.tk_shape.specs.declared.shape.Shape.{Shape}
use Rattle.tk_frames.specs.Order.{Record}
use Rattle.tk_table.specs.Table.{SlotTable, retained_with, retained_on, retained, empty_table}
use Rattle.tk_table.specs.Table.{layout_with, layout_on, layout}

retained_on-append : (shape : Shape) (R K ws : List Record) (w : Record) →
    retained_on shape R K (ws ++ w ∷ []) ≡ retained_with shape (R ++ ws)
    (retained_on shape R K ws) w
unfolding retained_on
retained_on-append shape R K [] w = ap (λ Q. retained_with shape Q K w) (sym (append-nil R))
retained_on-append shape R K (v ∷ ws) w =
    let next = retained_with shape R K v in
    retained_on-append shape (R ++ v ∷ []) next ws w
    ∙ ap (λ Q. retained_with shape Q (retained_on shape (R ++ v ∷ []) next ws) w)
    (append_assoc R (v ∷ []) ws)

pub retained-append : (shape : Shape) (R : List Record) (w : Record) →
    retained shape (R ++ w ∷ []) ≡ retained_with shape R (retained shape R) w
retained-append shape R w = retained_on-append shape [] [] R w

pub retained-none : (shape : Shape) → retained shape [] ≡ []
unfolding retained_on
retained-none shape = refl

layout_on-append : (shape : Shape) (R : List Record) (T : SlotTable) (ws : List Record)
    (w : Record) →
    layout_on shape R T (ws ++ w ∷ []) ≡ layout_with shape (R ++ ws) (layout_on shape R T ws) w
unfolding layout_on
layout_on-append shape R T [] w = ap (λ Q. layout_with shape Q T w) (sym (append-nil R))
layout_on-append shape R T (v ∷ ws) w =
    let next = layout_with shape R T v in
    layout_on-append shape (R ++ v ∷ []) next ws w
    ∙ ap (λ Q. layout_with shape Q (layout_on shape (R ++ v ∷ []) next ws) w)
    (append_assoc R (v ∷ []) ws)

pub layout-append : (shape : Shape) (R : List Record) (w : Record) →
    layout shape (R ++ w ∷ []) ≡ layout_with shape R (layout shape R) w
layout-append shape R w = layout_on-append shape [] (empty_table shape) R w

pub layout-none : (shape : Shape) → layout shape [] ≡ empty_table shape
unfolding layout_on
layout-none shape = refl

-- ---- a fact that one more element keeps

by_one_more_from : {X : Type 0} (P : List X → Type 0) →
    ((xs : List X) (x : X) → P xs → P (xs ++ x ∷ [])) → (done rest : List X) → P done →
    P (done ++ rest)
by_one_more_from P step done [] h = rw append-nil h
by_one_more_from P step done (x ∷ rest) h =
    rw append_assoc at (by_one_more_from P step (done ++ x ∷ []) rest (step done x h))

pub by_one_more : {X : Type 0} (P : List X → Type 0) → P [] →
    ((xs : List X) (x : X) → P xs → P (xs ++ x ∷ [])) → (xs : List X) → P xs
by_one_more P none step xs = by_one_more_from P step [] xs none
