-- The texts that were said for each turn of a run, as the list of a script: it is in order, and may be said.
use Rattle.tk_meeting.proofs.Terms.{◌≡◌, ℕ, ◌≤◌, ◌<◌, List, [], ◌∷◌, length, map, flat_map, ◌+◌, ◌/◌, ◌==◌, ◌++◌, ◌*◌}
use Rattle.tk_meeting.proofs.Terms.{Bool, true, false, None, ◌∙◌, refl, ap, zero, suc, arith, subst, ◌⊎◌, inl, inr}
use Rattle.tk_meeting.proofs.Terms.{lt-ltb, le-leb, ◌%◌, eq-eqb, mod-lt, IsTrue, div-mul-le_self, div-lt_iff_lt-mul}
use Rattle.tk_meeting.proofs.Terms.{and_parts, cases_lt, and_from, list_all-append, div-add-mod', le-div}
use Rattle.tk_meeting.proofs.Terms.{range_with_len, list_all, AllByRecursion, nat_lt, ◌&&◌, nat_le, ◌||◌, turn_count}
use Rattle.tk_meeting.proofs.Terms.{Shape, phase_of, tick_of, text_fault, Saying}
use Rattle.tk_seal.specs.Texts.{is_allowed}
use Rattle.tk_script.specs.declared.say.Say.{Say}
use Rattle.tk_script.specs.SoundScript.{is_say, is_said_by, are_in_order}
use Rattle.tk_client.proofs.Keeping.{fault-none}

-- a text that is said in turn g
abbrev pub say_in : Shape → ℕ → Saying → Say
say_in shape g y =
    record { phase = phase_of shape g; tick = tick_of shape g; log = y.log; text = y.text }

-- those of n turns from turn g on
abbrev pub says_from : Shape → (ℕ → List Saying) → ℕ → ℕ → List Say
says_from shape said g n = flat_map (λ k. map (say_in shape k) (said k)) (range_with_len g n)

-- ---- turns

-- an earlier number is in an earlier row, or in the same one and no further
in-row : (p a b h g : ℕ) → p + a ≡ h → p + b ≡ g → h ≤ g → a ≤ b
in-row p a b h g e f le = omega (arith, e, f, le)

rows : (t h g : ℕ) → 0 < t → h ≤ g → (h / t < g / t) ⊎ ((h / t ≡ g / t) × (h % t ≤ g % t))
rows t h g some le =
    elim (cases_lt (h / t) (g / t)) [
      | inl lt ↦ inl lt
      | inr ge ↦ inr (same ge, within (same ge))
    ]
  where
    below : h / t * t ≤ g
    below = omega (arith, div-mul-le_self h t, le)

    same : g / t ≤ h / t → h / t ≡ g / t
    same ge = omega (arith, ge, le-div (h / t) g t some below)

    within : h / t ≡ g / t → h % t ≤ g % t
    within e =
        in-row (g / t * t) (h % t) (g % t) h g
        (subst (λ (n : ℕ). n * t + h % t ≡ h) e (div-add-mod' h t)) (div-add-mod' g t) le

by-rows : (a b c d : ℕ) → (a < b) ⊎ ((a ≡ b) × (c ≤ d)) →
    (nat_lt a b || (a == b && nat_le c d)) ≡ true
by-rows a b c d (inl lt) = rw (lt-ltb a b lt) refl
by-rows a b c d (inr same) = rw (eq-eqb a b same.0, le-leb c d same.1) (either (nat_lt a b))
  where
    either : (t : Bool) → (t || true) ≡ true
    either true = refl
    either false = refl

turn-order : (shape : Shape) (h g : ℕ) (y z : Saying) → h ≤ g →
    is_said_by (say_in shape h y) (say_in shape g z) ≡ true
turn-order shape h g y z le =
    by-rows (phase_of shape h) (phase_of shape g) (tick_of shape h) (tick_of shape g)
    (elim (rows shape.ticks h g shape.in_range.ticks_low le) [
      | inl lt ↦ inl (omega (arith, lt))
      | inr same ↦ inr (ap (λ (n : ℕ). n + 1) same.0, omega (arith, same.1))
    ])

-- ---- order

first-ordered : (a : Say) (ys : List Say) → list_all (is_said_by a) ys ≡ true → are_in_order ys ≡ true →
    are_in_order (a ∷ ys) ≡ true
first-ordered a [] all ordered = refl
first-ordered a (y ∷ ys) all ordered =
    and_from (is_said_by a y) (are_in_order (y ∷ ys))
    (and_parts (is_said_by a y) (list_all (is_said_by a) ys) all).0 ordered

module _ (shape : Shape) where
  abbrev later : ℕ → Saying → Say → Bool
  later h y = is_said_by (say_in shape h y)

  turn-later : (h g : ℕ) (y : Saying) (zs : List Saying) → h ≤ g →
      list_all (later h y) (map (say_in shape g) zs) ≡ true
  turn-later h g y [] le = refl
  turn-later h g y (z ∷ zs) le =
      and_from (later h y (say_in shape g z)) (list_all (later h y) (map (say_in shape g) zs))
      (turn-order shape h g y z le) (turn-later h g y zs le)

  both-later : (h : ℕ) (y : Saying) (xs ys : List Say) → list_all (later h y) xs ≡ true →
      list_all (later h y) ys ≡ true → list_all (later h y) (xs ++ ys) ≡ true
  both-later h y xs ys a b =
      list_all-append (later h y) xs ys
      ∙ and_from (list_all (later h y) xs) (list_all (later h y) ys) a b

  turn-ordered : (g : ℕ) (zs : List Saying) (ys : List Say) →
      ((y : Saying) → list_all (later g y) ys ≡ true) → are_in_order ys ≡ true →
      are_in_order (map (say_in shape g) zs ++ ys) ≡ true
  turn-ordered g [] ys after ordered = ordered
  turn-ordered g (z ∷ zs) ys after ordered =
      first-ordered (say_in shape g z) (map (say_in shape g) zs ++ ys)
      (both-later g z (map (say_in shape g) zs) ys (turn-later g g z zs (omega arith)) (after z))
      (turn-ordered g zs ys after ordered)

  -- the texts of turns are in the order of the turns
  module _ (said : ℕ → List Saying) where
    from-later : (h g n : ℕ) (y : Saying) → h ≤ g → list_all (later h y) (says_from shape said g n) ≡ true
    from-later h g zero y le = refl
    from-later h g (suc n) y le =
        both-later h y (map (say_in shape g) (said g)) (says_from shape said (g + 1) n)
        (turn-later h g y (said g) le) (from-later h (g + 1) n y (omega (arith, le)))

    pub from-ordered : (g n : ℕ) → are_in_order (says_from shape said g n) ≡ true
    from-ordered g zero = refl
    from-ordered g (suc n) =
        turn-ordered g (said g) (says_from shape said (g + 1) n)
        (λ y. from-later g (g + 1) n y (omega arith)) (from-ordered (g + 1) n)

-- ---- soundness

-- a text of a log of the group, without a fault
pub record IsFit (shape : Shape) (y : Saying) : Type 0 where
  pub low : y.log < shape.logs
  pub free : text_fault shape y.text ≡ None

module _ (shape : Shape) where
  fit-sound : (g : ℕ) (y : Saying) → g < turn_count shape → IsFit shape y →
      is_say shape (say_in shape g y) ≡ true
  fit-sound g y in_turns fit =
      let p = phase_of shape g in
      let t = tick_of shape g in
      let some : 0 < shape.ticks = shape.in_range.ticks_low in
      let row : g / shape.ticks < shape.phases = (div-lt_iff_lt-mul some).1 in_turns in
      let text = fault-none shape y.text fit.free in
      let phase_low : IsTrue (nat_le 1 p) = le-leb 1 p (omega arith) in
      let phase_high : IsTrue (nat_le p shape.phases) = le-leb p shape.phases (omega (arith, row)) in
      let tick_low : IsTrue (nat_le 1 t) = le-leb 1 t (omega arith) in
      let tick_high : IsTrue (nat_le t shape.ticks)
      = le-leb t shape.ticks (omega (arith, mod-lt g some)) in
      let log_in : IsTrue (nat_lt y.log shape.logs) = lt-ltb y.log shape.logs fit.low in
      let room : IsTrue (nat_le (length y.text + 18) shape.block)
      = le-leb (length y.text + 18) shape.block text.0 in
      and_from _ (is_allowed y.text)
      (and_from _ (nat_le (length y.text + 18) shape.block)
      (and_from _ (nat_lt y.log shape.logs)
      (and_from _ (nat_le t shape.ticks)
      (and_from _ (nat_le 1 t)
      (and_from (nat_le 1 p) (nat_le p shape.phases) phase_low phase_high)
      tick_low) tick_high) log_in) room) text.1

  turn-sound : (g : ℕ) (zs : List Saying) → g < turn_count shape → AllByRecursion (IsFit shape) zs →
      list_all (is_say shape) (map (say_in shape g) zs) ≡ true
  turn-sound g [] in_turns fit = refl
  turn-sound g (z ∷ zs) in_turns fit =
      and_from (is_say shape (say_in shape g z)) (list_all (is_say shape) (map (say_in shape g) zs))
      (fit-sound g z in_turns fit.0) (turn-sound g zs in_turns fit.1)

  -- what is said without a fault in the turns of a run may be said in a script
  pub from-sound : (said : ℕ → List Saying) (g n : ℕ) → g + n ≤ turn_count shape →
      ((k : ℕ) → AllByRecursion (IsFit shape) (said k)) →
      list_all (is_say shape) (says_from shape said g n) ≡ true
  from-sound said g zero within fit = refl
  from-sound said g (suc n) within fit =
      list_all-append (is_say shape) (map (say_in shape g) (said g)) (says_from shape said (g + 1) n)
      ∙ and_from (list_all (is_say shape) (map (say_in shape g) (said g)))
      (list_all (is_say shape) (says_from shape said (g + 1) n))
      (turn-sound g (said g) (omega (arith, within)) (fit g))
      (from-sound said (g + 1) n (omega (arith, within)) fit)
