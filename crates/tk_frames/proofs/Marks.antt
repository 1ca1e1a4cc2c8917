-- What stands before a mark.
use Rattle.std.proofs.Common.{◌≡◌, ℕ, zero, suc, ◌<◌, true, false, cond, ◌||◌, List, [], ◌∷◌, ◌++◌, refl, ap, arith}
use Rattle.tk_frames.specs.declared.entry.Placed.{Placed}
use Rattle.tk_frames.specs.Order.{is_mark_of, has_mark, records, up_to_mark, before}

-- up to a mark that stands, whatever follows
up_to_mark-append : (e : ℕ) (E F : List Placed) → has_mark e E ≡ true → up_to_mark e (E ++ F) ≡ up_to_mark e E
up_to_mark-append e [] F h = absurd cc
up_to_mark-append e (p ∷ E) F h =
    elim (is_mark_of e p) as (λ b. (b || has_mark e E) ≡ true → cond b [] (p ∷ up_to_mark e (E ++ F)) ≡ cond b [] (p ∷ up_to_mark e E))
    [ true ↦ λ _. refl | false ↦ λ rest. ap (λ ps. p ∷ ps) (up_to_mark-append e E F rest) ] h

-- up to the first mark after entries without one
up_to_mark-at : (e : ℕ) (E F : List Placed) (m : Placed) → has_mark e E ≡ false → is_mark_of e m ≡ true → up_to_mark e (E ++ m ∷ F) ≡ E
up_to_mark-at e [] F m none at = ap (λ b. cond b [] (m ∷ up_to_mark e F)) at
up_to_mark-at e (p ∷ E) F m none at =
    elim (is_mark_of e p) as (λ b. (b || has_mark e E) ≡ false → cond b [] (p ∷ up_to_mark e (E ++ m ∷ F)) ≡ p ∷ E)
    [ true ↦ λ h. absurd cc | false ↦ λ rest. ap (λ ps. p ∷ ps) (up_to_mark-at e E F m rest at) ] none

up_to_mark-without : (e : ℕ) (E : List Placed) → has_mark e E ≡ false → up_to_mark e E ≡ E
up_to_mark-without e [] none = refl
up_to_mark-without e (p ∷ E) none =
    elim (is_mark_of e p) as (λ b. (b || has_mark e E) ≡ false → cond b [] (p ∷ up_to_mark e E) ≡ p ∷ E)
    [ true ↦ λ h. absurd cc | false ↦ λ rest. ap (λ ps. p ∷ ps) (up_to_mark-without e E rest) ] none

pub before-none : (E : List Placed) → before E 0 ≡ []
unfolding before
before-none E = refl

pub before-settled : (E F : List Placed) (e : ℕ) → has_mark e E ≡ true → before (E ++ F) e ≡ before E e
unfolding before
before-settled E F zero h = refl
before-settled E F (suc e) h = ap records (up_to_mark-append (suc e) E F h)

pub before-marked : (E F : List Placed) (m : Placed) (e : ℕ) → 0 < e → has_mark e E ≡ false → is_mark_of e m ≡ true → before (E ++ m ∷ F) e ≡ records E
unfolding before
before-marked E F m zero low none at = absurd (omega arith)
before-marked E F m (suc e) low none at = ap records (up_to_mark-at (suc e) E F m none at)

pub before-unmarked : (E : List Placed) (e : ℕ) → 0 < e → has_mark e E ≡ false → before E e ≡ records E
unfolding before
before-unmarked E zero low none = absurd (omega arith)
before-unmarked E (suc e) low none = ap records (up_to_mark-without (suc e) E none)
