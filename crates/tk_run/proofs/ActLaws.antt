-- What holds of all passes before they act, and after.
use Rattle.std.proofs.Common.{◌≡◌, ◌∙◌, refl, ap, arith, ℕ, zero, suc, List, [], ◌∷◌, All, Bool, false}
use Rattle.std.specs.Prelude.{Option, Some, None}
use Rattle.std.proofs.lemmas.List.Elements.{All-tail}
use Rattle.atomic_table.specs.Seated.{TableId}
use Rattle.tk_shape.specs.declared.shape.Shape.{Shape}
use Rattle.tk_board.specs.Boards.{Known}
use Rattle.tk_cluster.specs.declared.set.EpochSet.{EpochSet}
use Rattle.tk_cluster.specs.Passes.{Passing, Reading}
use Rattle.tk_cluster.specs.Tellings.{Telling}
use Rattle.tk_run.specs.declared.actors.Desk.{Desk}
use Rattle.tk_run.specs.Acting.{WroteAndPinned, Heralds}
use Rattle.tk_run.specs.Ticks.{AllBy, Done}

pub all_by : {X : Type 0} (P : X → Type 0) (xs : List X) → All P xs → AllBy P xs
all_by P [] all = tt
all_by P (x ∷ xs) all = (
  all 0 x (omega arith),
  all_by P xs (λ k d low. all (suc k) d (omega (arith, low))),
)

-- anything may lie on any desk
pub all_free : {X : Type 0} (xs : List X) → AllBy (λ x. Unit {0}) xs
all_free [] = tt
all_free (x ∷ xs) = (tt, all_free xs)

-- who acted is on the board that it was on
pub still_on : (shape : Shape) (most : ℕ) (board : TableId) (xs : List Passing) (ds es : List Desk)
    (ys : List Passing) → Done (WroteAndPinned shape most) xs ds es ys →
    All (λ (a : Passing). a.reads.board ≡ board) xs →
    All (λ (a : Passing). a.reads.board ≡ board) ys
still_on shape most board [] [] [] [] done on k d low = absurd (omega (arith, low))
still_on shape most board (x ∷ xs) (d ∷ ds) (e ∷ es) (y ∷ ys) done on zero a low =
    done.0.pins.reads.board ∙ (ap (λ (r : Reading). r.board) done.0.wrote.wrote.reads
    ∙ on 0 x (omega arith))
still_on shape most board (x ∷ xs) (d ∷ ds) (e ∷ es) (y ∷ ys) done on (suc k) a low =
    still_on shape most board xs ds es ys done.1
    (All-tail (λ (b : Passing). b.reads.board ≡ board) x xs on) k a (omega (arith, low))
still_on shape most board _ _ _ _ done on k d low = absurd done

-- where nothing was told the turn closes no phase, and the publisher is as it was
pub nothing_told : (shape : Shape) (b : Bool) (p q : Telling) (o : Option (Known EpochSet)) →
    Heralds shape b p o q → ((t : Known EpochSet) → o ≡ Some t → ⊥) → (b ≡ false) × (q ≡ p)
nothing_told shape b p q None h none = h
nothing_told shape b p q (Some t) h none = absurd (none t refl)
