-- The layout of ordered records holds the retained ones.
use Rattle.std.proofs.Common.{sym, subst, List, [], ◌∷◌, ◌++◌}
use Rattle.std.proofs.lemmas.Bool.{not_from_false, not-true}
use Rattle.tk_shape.specs.declared.shape.Shape.{Shape}
use Rattle.tk_frames.specs.Order.{Record}
use Rattle.tk_table.specs.Table.{window, unexpired, fit_together, retained, empty_table, layout_with, layout}
use Rattle.tk_table.specs.Ordered.{HasBuckets, AreOrdered}
use Rattle.tk_table.specs.Laws.{left_for, DisplacedWithoutEnd}
use Rattle.tk_frames.proofs.Offers.{each-split}
use Rattle.tk_table.proofs.OneMore.{retained-append, retained-none, layout-append, layout-none, by_one_more}
use Rattle.tk_table.proofs.Ascending.{ascend-front, ascend-last}
use Rattle.tk_table.proofs.Searching.{search-exact}
use Rattle.tk_table.proofs.Holds.{Holds, expired-holds, empty_table-holds}
use Rattle.tk_table.proofs.Placing.{IsNew, layout_with-holds}

-- the records before the last, and the last one
pub ordered-front : (shape : Shape) (R : List Record) (w : Record) →
    AreOrdered shape (R ++ w ∷ []) → AreOrdered shape R
ordered-front shape R w h =
    record {
      ascend = ascend-front 1 R w h.ascend;
      within = (each-split (HasBuckets shape) R w h.within).0;
    }

pub ordered-new : (shape : Shape) (R : List Record) (w : Record) → AreOrdered shape (R ++ w ∷ []) →
    IsNew shape w
ordered-new shape R w h =
    record {
      position = ascend-last 1 R w h.ascend;
      buckets = (each-split (HasBuckets shape) R w h.within).1;
    }

-- The layout of ordered records holds the retained ones.
pub layout-holds : (shape : Shape) (R : List Record) → AreOrdered shape R →
    Holds shape (layout shape R) (retained shape R)
layout-holds shape =
    by_one_more (λ R. AreOrdered shape R → Holds shape (layout shape R) (retained shape R))
    (λ _.
    subst (λ T. Holds shape T (retained shape [])) (sym (layout-none shape))
    (subst (λ K. Holds shape (empty_table shape) K) (sym (retained-none shape))
    (empty_table-holds shape)))
    (λ R w before ordered.
    subst (λ T. Holds shape T (retained shape (R ++ w ∷ []))) (sym (layout-append shape R w))
    (subst (λ K. Holds shape (layout_with shape R (layout shape R) w) K)
    (sym (retained-append shape R w))
    (layout_with-holds shape R (layout shape R) (retained shape R) w
    (before (ordered-front shape R w ordered)) (ordered-new shape R w ordered))))

-- A write is displaced exactly where the search over what is left of the table has no end.
pub displaced-without_end : DisplacedWithoutEnd
displaced-without_end shape R w ordered =
    let left = left_for shape R w in
    let kept = unexpired shape R w (retained shape R) in
    let new = ordered-new shape R w ordered in
    let holds : Holds shape left kept =
    expired-holds shape (window shape (R ++ w ∷ [])) (layout shape R) (retained shape R)
    (layout-holds shape R (ordered-front shape R w ordered)) in
    let means = search-exact shape left kept w holds.sized holds.home holds.entries
    new.buckets.first new.buckets.second in (
      λ none. not_from_false (fit_together shape (kept ++ w ∷ [])) (means.0 none),
      λ displaced. means.1 (not-true (fit_together shape (kept ++ w ∷ [])) displaced),
    )
