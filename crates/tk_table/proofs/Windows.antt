-- The window when one more write comes.
use Rattle.std.proofs.Common.{◌≡◌, ℕ, zero, suc, ◌+◌, ◌-◌, ◌<◌, ◌≤◌, inl, inr, refl, ap, sym, ◌∙◌}
use Rattle.std.proofs.Common.{subst, arith, List, [], ◌∷◌, ◌++◌, length, drop, map, length-append, length-drop}
use Rattle.std.specs.List.{All}
use Rattle.std.proofs.lemmas.List.{drop-append-le, drop-drop, drop-map, length-map, map-append}
use Rattle.tk_shape.specs.declared.shape.Shape.{Shape}
use Rattle.tk_frames.specs.Order.{Record}
use Rattle.tk_table.specs.Ordered.{AscendFrom, HasBuckets, AreOrdered}
use Rattle.tk_table.specs.Table.{window}
use Rattle.tk_table.specs.Stands.{position_of}
use Rattle.tk_frames.proofs.Offers.{each-push, all_in, in_map}
use Rattle.tk_frames.specs.Lists.{IsIn}

pub window-push : {X : Type 0} (shape : Shape) (xs : List X) (x : X) →
    window shape (xs ++ x ∷ []) ≡ drop (length xs + 1 - shape.retained) xs ++ x ∷ []
window-push shape xs x =
    let low : 1 ≤ shape.retained = shape.in_range.retained_low in
    ap (λ n. drop (n - shape.retained) (xs ++ x ∷ [])) (length-append xs (x ∷ []))
    ∙ drop-append-le (length xs + 1 - shape.retained) xs (x ∷ []) (omega arith)

-- the window of a window that goes on
pub window-goes_on : {X Y : Type 0} (shape : Shape) (f : X → Y) (xs : List X) (x : X) →
    window shape (map f (window shape xs) ++ f x ∷ []) ≡ map f (window shape (xs ++ x ∷ []))
window-goes_on shape f xs x =
    let low : 1 ≤ shape.retained = shape.in_range.retained_low in
    let gone = length xs - shape.retained in
    let kept : length (map f (window shape xs)) ≡ length xs - gone =
    length-map (window shape xs) f ∙ length-drop gone xs in
    let more = length (map f (window shape xs)) + 1 - shape.retained in
    window-push shape (map f (window shape xs)) (f x)
    ∙ ap (λ ys. ys ++ f x ∷ []) (drop-map f more (window shape xs)
    ∙ ap (map f) (drop-drop more gone xs)
    ∙ ap (λ n. map f (drop n xs)) (omega (arith, kept, low)))
    ∙ sym (map-append f (drop (length xs + 1 - shape.retained) xs) (x ∷ []))
    ∙ ap (map f) (sym (window-push shape xs x))

-- ---- in order

pub ascend-pushed : (p : ℕ) (R : List Record) (w : Record) → AscendFrom p R → p ≤ w.position →
    ((r : Record) → IsIn R r → r.position < w.position) → AscendFrom p (R ++ w ∷ [])
ascend-pushed p [] w h low below = (low, tt)
ascend-pushed p (r ∷ R) w h low below =
    let here = below r (inl refl) in (
      h.0,
      ascend-pushed (r.position + 1) R w h.1 (omega (arith, here))
          (λ s there. below s (inr there)),
    )

-- a write above those after the first n comes after all
ascend-above_last : (p n : ℕ) (R : List Record) (w : Record) → AscendFrom p R → n < length R →
    ((r : Record) → IsIn (drop n R) r → r.position < w.position) → AscendFrom p (R ++ w ∷ [])
ascend-above_last p n [] w h low below = absurd (omega (arith, low))
ascend-above_last p zero (r ∷ R) w h low below =
    let here = below r (inl refl) in
    ascend-pushed p (r ∷ R) w h (omega (arith, here, h.0)) below
ascend-above_last p (suc n) (r ∷ R) w h low below =
    (h.0, ascend-above_last (r.position + 1) n R w h.1 (omega (arith, low)) below)

ascend-above_window : (shape : Shape) (R : List Record) (w : Record) → AscendFrom 1 R →
    1 ≤ w.position → ((r : Record) → IsIn (window shape R) r → r.position < w.position) →
    AscendFrom 1 (R ++ w ∷ [])
ascend-above_window shape [] w h low below = (low, tt)
ascend-above_window shape (r ∷ R) w h low below =
    let some : 1 ≤ shape.retained = shape.in_range.retained_low in
    ascend-above_last 1 (length (r ∷ R) - shape.retained) (r ∷ R) w h (omega (arith, some)) below

-- the records with a new one that is above the latest writes
pub ordered-with : (shape : Shape) (R : List Record) (w : Record) (positions : List ℕ)
    (position : ℕ) →
    AreOrdered shape R → positions ≡ map position_of (window shape R) → w.position ≡ position →
    1 ≤ position → All (λ p. p < position) positions → HasBuckets shape w →
    AreOrdered shape (R ++ w ∷ [])
ordered-with shape R w positions position ordered same at low above buckets =
    record {
      ascend = ascend-above_window shape R w ordered.ascend (omega (arith, low, at)) (λ r there.
          let below = all_in (λ p. p < position) (map position_of (window shape R))
          (position_of r) (subst (All (λ p. p < position)) same above)
          (in_map position_of (window shape R) r there) in
          omega (arith, below, at));
      within = each-push (HasBuckets shape) R w ordered.within buckets;
    }
