-- The positions of a window that slots have.
use Rattle.std.proofs.Common.{◌≡◌, ◌≢◌, ℕ, zero, suc, ◌+◌, ◌<◌, Bool, true, false, List, [], ◌∷◌, ◌++◌}
use Rattle.std.proofs.Common.{length, get_or, set, replicate, refl, sym, ap, ap₂, ◌∙◌, arith, eq-eqb}
use Rattle.std.specs.Prelude.{◌==◌, ◌||◌}
use Rattle.std.specs.List.{list_any}
use Rattle.std.proofs.lemmas.Bool.{ne_eqb}
use Rattle.std.proofs.lemmas.List.Folds.{list_any-append}
use Rattle.tk_table.specs.Table.{Slot}
use Rattle.tk_table.specs.Restoring.{AreAscending}
use Rattle.tk_table.proofs.Offers.{ascending_above}
use Rattle.tk_checkpoint.specs.Sound.{has_slot}
use Rattle.tk_checkpoint.specs.Finding.{flags}

-- ---- positions that ascend

pub rising : (p : ℕ) (ps : List ℕ) (i j : ℕ) → AreAscending p ps → i < j → j < length ps →
    get_or ps i 0 < get_or ps j 0
rising p [] i j up order low = absurd (omega arith)
rising p (q ∷ qs) i zero up order low = absurd (omega arith)
rising p (q ∷ qs) zero (suc j) up order low =
    omega (arith, ascending_above (q + 1) qs j up.1 (omega (arith, low)))
rising p (q ∷ qs) (suc i) (suc j) up order low =
    rising (q + 1) qs i j up.1 (omega (arith, order)) (omega (arith, low))

-- ---- one slot more

or_false : (b : Bool) → (b || false) ≡ b
or_false true = refl
or_false false = refl

or_true : (b : Bool) → (b || true) ≡ true
or_true true = refl
or_true false = refl

module _ (earlier : List Slot) (s : Slot) where
  more : (q : ℕ) (b : Bool) → (s.position == q) ≡ b → has_slot (earlier ++ s ∷ []) q ≡ (has_slot earlier q || b)
  more q b is =
      list_any-append (λ (e : Slot). e.position == q) earlier (s ∷ [])
      ∙ ap (λ x. has_slot earlier q || x) (or_false (s.position == q) ∙ is)

  apart : (q : ℕ) → s.position ≢ q → has_slot (earlier ++ s ∷ []) q ≡ has_slot earlier q
  apart q other = more q false (ne_eqb s.position q other) ∙ or_false (has_slot earlier q)

  same : (q : ℕ) → s.position ≡ q → has_slot (earlier ++ s ∷ []) q ≡ true
  same q is = more q true (eq-eqb s.position q is) ∙ or_true (has_slot earlier q)

  -- a slot below all positions changes no flag
  pub flags_above : (p : ℕ) (ps : List ℕ) → AreAscending p ps → s.position < p →
      flags ps (earlier ++ s ∷ []) ≡ flags ps earlier
  flags_above p [] up low = refl
  flags_above p (q ∷ qs) up low =
      ap₂ (λ (b : Bool) bs. b ∷ bs) (apart q (λ e. omega (arith, e, up.0, low)))
      (flags_above (q + 1) qs up.1 (omega (arith, up.0, low)))

  -- a slot with one of the positions changes its flag
  pub flags_noted : (p : ℕ) (ps : List ℕ) (i : ℕ) → AreAscending p ps → i < length ps →
      get_or ps i 0 ≡ s.position → set (flags ps earlier) i true ≡ flags ps (earlier ++ s ∷ [])
  flags_noted p [] i up low is = absurd (omega arith)
  flags_noted p (q ∷ qs) zero up low is =
      sym (ap₂ (λ (b : Bool) bs. b ∷ bs) (same q (sym is)) (flags_above (q + 1) qs up.1 (omega (arith, is))))
  flags_noted p (q ∷ qs) (suc i) up low is =
      let high = ascending_above (q + 1) qs i up.1 (omega (arith, low)) in
      ap₂ (λ (b : Bool) bs. b ∷ bs) (sym (apart q (λ e. omega (arith, e, is, high))))
      (flags_noted (q + 1) qs i up.1 (omega (arith, low)) is)

-- ---- before any slot

pub no_flags : (ps : List ℕ) → replicate (length ps) false ≡ flags ps []
no_flags [] = refl
no_flags (p ∷ ps) = ap (λ bs. false ∷ bs) (no_flags ps)

-- ---- what a search tells

pub is_unnamed : (ps : List ℕ) (x : ℕ) → ((i : ℕ) → i < length ps → get_or ps i 0 ≢ x) →
    list_any (λ p. p == x) ps ≡ false
is_unnamed [] x none = refl
is_unnamed (p ∷ ps) x none =
    ap₂ (λ a b. a || b) (ne_eqb p x (none 0 (omega arith)))
    (is_unnamed ps x (λ i low. none (suc i) (omega (arith, low))))
