-- A choice by a test, and a function that is changed in one place.
use Rattle.tk_meeting.proofs.Terms.{◌≡◌, ℕ, ◌==◌, cond, Bool, true, false, refl, sym, subst, eqb-true, eq-eqb}

-- what holds either way holds
pub pick : (P : Bool → Type 0) (k : Bool) → (k ≡ true → P true) → (k ≡ false → P false) → P k
pick P true this that = this refl
pick P false this that = that refl

-- what holds at a place, and elsewhere, holds of any number
pub at-place : (P : ℕ → Bool → Type 0) (c k : ℕ) → P c true → ((k == c) ≡ false → P k false) → P k (k == c)
at-place P c k here there =
    pick (P k) (k == c) (λ same. subst (λ n. P n true) (sym (eqb-true k c same)) here) there

pub itself : (k : ℕ) → (k == k) ≡ true
itself k = eq-eqb k k refl

-- a change to what stands there is none
pub unchanged : {X : Type 0} (i : ℕ) (f : ℕ → X) (k : ℕ) → cond (k == i) (f i) (f k) ≡ f k
unchanged i f k = at-place (λ n b. cond b (f i) (f n) ≡ f n) i k refl (λ _. refl)
