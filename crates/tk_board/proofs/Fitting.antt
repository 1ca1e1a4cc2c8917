-- Which values may stand where in a list.
use Rattle.std.proofs.Common.{◌≡◌, ◌⊎◌, ℕ, zero, suc, ◌+◌, List, [], ◌∷◌, ◌++◌, length}
use Rattle.std.proofs.Common.{Some, slice_get, sym, ap, subst, refl, ⊎_elim, inl, inr}
use Rattle.tk_board.specs.Boards.{AllFit}

-- what stands in a list with a value after it
get_snoc : {M : Type 0} (xs : List M) (y x : M) (k : ℕ) → slice_get (xs ++ y ∷ []) k ≡ Some x
    → (slice_get xs k ≡ Some x) ⊎ ((y ≡ x) × (k ≡ length xs))
get_snoc [] y x zero e = inr (cc e, refl)
get_snoc [] y x (suc k) e = absurd (cc e)
get_snoc (z ∷ xs) y x zero e = inl e
get_snoc (z ∷ xs) y x (suc k) e =
    ⊎_elim (λ t. inl t) (λ t. inr (t.0, ap suc t.1)) (get_snoc xs y x k e)

module _ {M : Type 0} (fits : ℕ → M → Type 0) where
  -- one value more, which may stand after the list
  pub fit_snoc : (xs : List M) (y : M) → AllFit fits xs → fits (length xs) y
      → AllFit fits (xs ++ y ∷ [])
  fit_snoc xs y all new k x e =
      ⊎_elim (λ was. all k x was)
      (λ (t : (y ≡ x) × (k ≡ length xs)).
      subst (λ (n : ℕ). fits n x) (sym t.1) (subst (fits (length xs)) t.0 new))
      (get_snoc xs y x k e)
