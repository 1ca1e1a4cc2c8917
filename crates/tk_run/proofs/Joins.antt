-- Lists cut in two and put together.
use Rattle.std.proofs.Common.{List, [], ◌∷◌, ◌++◌}
use Rattle.tk_run.specs.Ticks.{Done}

pub done-append : {X D : Type 0} (R : X → D → D → X → Type 0)
    (xs : List X) (ds es : List D) (ys zs : List X) (fs gs : List D) (ws : List X) →
    Done R xs ds es ys → Done R zs fs gs ws → Done R (xs ++ zs) (ds ++ fs) (es ++ gs) (ys ++ ws)
done-append R [] [] [] [] zs fs gs ws h k = k
done-append R (x ∷ xs) (d ∷ ds) (e ∷ es) (y ∷ ys) zs fs gs ws h k =
    (h.0, done-append R xs ds es ys zs fs gs ws h.1 k)
done-append R _ _ _ _ zs fs gs ws h k = absurd h
