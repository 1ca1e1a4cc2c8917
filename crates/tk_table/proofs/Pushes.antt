-- The positions of the writes in the window, when one more write comes.
use Rattle.std.proofs.Common.{◌≡◌, ℕ, zero, suc, ◌-◌, refl, ap, sym, ◌∙◌, List, [], ◌∷◌, ◌++◌, length, map, drop}
use Rattle.std.proofs.lemmas.List.{drop-map, map-append, length-map}
use Rattle.tk_shape.specs.declared.shape.Shape.{Shape}
use Rattle.tk_frames.specs.Order.{Record}
use Rattle.tk_table.specs.Table.{window}
use Rattle.tk_bloom.specs.Windows.{window as window_of}
use Rattle.tk_bloom.proofs.Offers.{window-append}
use Rattle.tk_table.specs.Shown.{pushes_of}

window-map : {X Y : Type 0} (f : X → Y) (n : ℕ) (xs : List X) →
    window_of n (map f xs) ≡ map f (window_of n xs)
window-map f n xs =
    ap (λ k. drop (k - n) (map f xs)) (length-map xs f) ∙ drop-map f (length xs - n) xs

pub pushes-more : (shape : Shape) (R : List Record) (r : Record) →
    window_of shape.retained (pushes_of shape R ++ r.write.hits ∷ [])
    ≡ pushes_of shape (R ++ r ∷ [])
pushes-more shape R r =
    let n = shape.retained in
    let hits = λ (x : Record). x.write.hits in
    ap (window_of n) (sym (map-append hits (window shape R) (r ∷ [])))
    ∙ window-map hits n (window shape R ++ r ∷ [])
    ∙ ap (map hits) (window-append n R (r ∷ []))

drop-none : {X : Type 0} (n : ℕ) → drop {A = X} n [] ≡ []
drop-none zero = refl
drop-none (suc n) = refl

pub pushes-none : (shape : Shape) → pushes_of shape [] ≡ []
pushes-none shape = ap (map (λ (r : Record). r.write.hits)) (drop-none (0 - shape.retained))
