-- The turns of phases of t turns each.
use Rattle.std.proofs.Common.{◌≡◌, ℕ, ◌+◌, ◌*◌, ◌/◌, ◌%◌, ◌<◌, ◌≤◌, ap, ◌∙◌, arith, inl, inr}
use Rattle.std.proofs.lemmas.Bool.{cases_lt}
use Rattle.std.proofs.lemmas.Nat.{div-add-mod', mod-mul-add}
use Rattle.std.proofs.Math.Nat.{div-lt_iff_lt-mul, div-mul-le_self, mul-le-mul_right, lt-div-mul-add}
use Rattle.tk_schedule.proofs.Offers.{one_more}

-- a turn before the end of phase n is in one of the first n phases
pub phase-before : (t n g : ℕ) → 0 < t → g < n * t → g / t < n
phase-before t n g some low = (div-lt_iff_lt-mul {k = t} {x = g} {y = n} some).1 low

pub phase-past : (t n g : ℕ) → 0 < t → n * t ≤ g → n ≤ g / t
phase-past t n g some high = elim (cases_lt (g / t) n) [
  | inl below ↦ absurd (omega (arith, high, (div-lt_iff_lt-mul {k = t} {x = g} {y = n} some).0 below))
  | inr past ↦ past
]

-- a turn that closes its phase is the one before the next phase
pub closing-last : (t g : ℕ) → 0 < t → (g + 1) % t ≡ 0 → g + 1 ≡ (g / t + 1) * t
closing-last t g some closes =
    let whole : (g + 1) / t * t + (g + 1) % t ≡ g + 1 = div-add-mod' (g + 1) t in
    let low : g / t * t ≤ g = div-mul-le_self g t in
    let high : g < g / t * t + t = lt-div-mul-add {a = g} {b = t} some in
    elim (cases_lt (g / t) ((g + 1) / t)) [
      | inl more ↦
          let at_least : (g / t + 1) * t ≤ (g + 1) / t * t =
          mul-le-mul_right {m = g / t + 1} {n = (g + 1) / t} t (omega (arith, more))
          in
          omega (arith, whole, closes, at_least, one_more (g / t) t, high)
      | inr less ↦
          let at_most : (g + 1) / t * t ≤ g / t * t =
          mul-le-mul_right {m = (g + 1) / t} {n = g / t} t less
          in
          absurd (omega (arith, whole, closes, at_most, low))
    ]

-- and the turn before a phase closes one
pub last-closes : (t n g : ℕ) → 0 < t → g + 1 ≡ (n + 1) * t → (g + 1) % t ≡ 0
last-closes t n g some last =
    ap (λ k. k % t) (last ∙ and_none ((n + 1) * t)) ∙ mod-mul-add (n + 1) t 0 some
  where
    and_none : (k : ℕ) → k ≡ k + 0
    and_none k = omega arith

pub last-phase : (t n g : ℕ) → 0 < t → g + 1 ≡ (n + 1) * t → g / t ≡ n
last-phase t n g some last =
    let more = one_more n t in
    let below : g / t < n + 1 = phase-before t (n + 1) g some (omega (arith, last)) in
    let past : n ≤ g / t = phase-past t n g some (omega (arith, last, more)) in
    omega (arith, below, past)

-- a turn that closes a phase before the end of phase n + 1 closes one of the first n
pub phase-closed : (t n g : ℕ) → 0 < t → (g + 1) % t ≡ 0 → g + 1 < (n + 1) * t → g / t + 1 ≤ n
phase-closed t n g some closes before = elim (cases_lt n (g / t + 1)) [
  | inl more ↦
      let at_least : (n + 1) * t ≤ (g / t + 1) * t =
      mul-le-mul_right {m = n + 1} {n = g / t + 1} t (omega (arith, more))
      in
      absurd (omega (arith, before, closing-last t g some closes, at_least))
  | inr less ↦ less
]

-- the phases that are over after a turn
pub phases-step : (t g : ℕ) → 0 < t → (g + 1) % t ≡ 0 → (g + 1) / t ≡ g / t + 1
phases-step t g some closes =
    let last = closing-last t g some closes in
    let past : g / t + 1 ≤ (g + 1) / t = phase-past t (g / t + 1) (g + 1) some (omega (arith, last)) in
    let below : (g + 1) / t < g / t + 1 + 1 =
    phase-before t (g / t + 1 + 1) (g + 1) some (omega (arith, last, one_more (g / t + 1) t, some))
    in
    omega (arith, past, below)

pub phases-stay : (t g : ℕ) → 0 < t → ((g + 1) % t ≡ 0 → ⊥) → (g + 1) / t ≡ g / t
phases-stay t g some open_still =
    let high : g < g / t * t + t = lt-div-mul-add {a = g} {b = t} some in
    let low : g / t * t ≤ g = div-mul-le_self g t in
    let next = one_more (g / t) t in
    let past : g / t ≤ (g + 1) / t = phase-past t (g / t) (g + 1) some (omega (arith, low)) in
    elim (cases_lt (g + 1) ((g / t + 1) * t)) [
      | inl before ↦
          let below : (g + 1) / t < g / t + 1 = phase-before t (g / t + 1) (g + 1) some before in
          omega (arith, past, below)
      | inr not_before ↦
          absurd (open_still (last-closes t (g / t) g some (omega (arith, not_before, next, high))))
    ]

pub phases-grow : (t g : ℕ) → 0 < t → g / t ≤ (g + 1) / t
phases-grow t g some = phase-past t (g / t) (g + 1) some (omega (arith, div-mul-le_self g t))
