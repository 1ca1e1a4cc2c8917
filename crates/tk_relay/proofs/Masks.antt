-- The pads of a shape: what they mask, and what the last server's moved pad shows.
use Rattle.std.proofs.Common.{◌≡◌, ℕ, ◌-◌, ◌≤◌, ◌<◌, true, false, cond, List, length, set}
use Rattle.std.proofs.Common.{refl, ap, sym, ◌∙◌, arith, ltb-true}
use Rattle.std.specs.Prelude.{nat_lt}
use Rattle.std.specs.List.{AllByRecursion}
use Rattle.std.proofs.lemmas.Bool.{lt-ltb}
use Rattle.std.proofs.lemmas.List.{get_or-set_same, get_or-set_other, set-get_or, length-set}
use Rattle.std.proofs.lemmas.List.Elements.{All-from_recursion}
use Rattle.tk_shape.specs.declared.shape.Shape.{Shape}
use Rattle.tk_relay.specs.Halves.{Halves, HasHalves, blank_halves, mixed}
use Rattle.tk_relay.specs.Pads.{pad_of, masked}
use Rattle.tk_relay.specs.Sights.{moved, moved_last}
use Rattle.tk_relay.proofs.Lists.{each-set, set-twice}
use Rattle.tk_relay.proofs.Mixing.{mixed-sized, mixed-off, halves-moved, halves-back}

module _ (shape : Shape) (n : ℕ) (pads : List Halves) (counted : length pads ≡ shape.servers - 1)
    (sized : AllByRecursion (HasHalves n) pads) where
  several : 2 ≤ shape.servers
  several = shape.in_range.servers_low

  pub pad-sized : (j : ℕ) → 1 < j → j ≤ shape.servers → HasHalves n (pad_of pads j)
  pad-sized j low high =
      All-from_recursion (HasHalves n) pads sized (j - 2) blank_halves
      (omega (arith, counted, low, high))

  pub masked-sized : (j : ℕ) (x : Halves) → j ≤ shape.servers → HasHalves n x →
      HasHalves n (masked pads j x)
  masked-sized j x high xl =
      elim (nat_lt 1 j) as (λ b. nat_lt 1 j ≡ b → HasHalves n (cond b (mixed x (pad_of pads j)) x)) [
        | true ↦ λ e. mixed-sized n x (pad_of pads j) xl (pad-sized j (ltb-true 1 j e) high)
        | false ↦ λ e. xl
      ] refl

  -- a mask that is put on is taken off
  pub masked-twice : (j : ℕ) (x : Halves) → j ≤ shape.servers → HasHalves n x →
      masked pads j (masked pads j x) ≡ x
  masked-twice j x high xl =
      elim (nat_lt 1 j) as (λ b. nat_lt 1 j ≡ b →
      cond b (mixed (cond b (mixed x (pad_of pads j)) x) (pad_of pads j))
      (cond b (mixed x (pad_of pads j)) x) ≡ x) [
        | true ↦ λ e. mixed-off n x (pad_of pads j) xl (pad-sized j (ltb-true 1 j e) high)
        | false ↦ λ e. refl
      ] refl

  module _ (old new : Halves) (old_sized : HasHalves n old) (new_sized : HasHalves n new) where
    moved-sized : HasHalves n (moved old new (pad_of pads shape.servers))
    moved-sized =
        let pad = pad_of pads shape.servers in
        mixed-sized n (mixed pad old) new
        (mixed-sized n pad old (pad-sized shape.servers (omega (arith, several)) (omega arith)) old_sized)
        new_sized

    pub moved-counted : length (moved_last shape old new pads) ≡ shape.servers - 1
    moved-counted =
        length-set pads (shape.servers - 2) (moved old new (pad_of pads shape.servers)) ∙ counted

    pub moved-each : AllByRecursion (HasHalves n) (moved_last shape old new pads)
    moved-each =
        each-set (HasHalves n) pads (shape.servers - 2)
        (moved old new (pad_of pads shape.servers)) sized moved-sized

    last-moved : pad_of (moved_last shape old new pads) shape.servers
        ≡ moved old new (pad_of pads shape.servers)
    last-moved =
        get_or-set_same pads (shape.servers - 2) (moved old new (pad_of pads shape.servers))
        blank_halves (omega (arith, counted, several))

    other-kept : (j : ℕ) → 1 < j → j < shape.servers →
        pad_of (moved_last shape old new pads) j ≡ pad_of pads j
    other-kept j low high =
        get_or-set_other pads (shape.servers - 2) (j - 2)
        (moved old new (pad_of pads shape.servers)) blank_halves
        (λ same. absurd (omega (arith, same, low, high)))

    -- a server that isn't the last shows the same
    pub other-shows : (j : ℕ) (x : Halves) → j < shape.servers →
        masked pads j x ≡ masked (moved_last shape old new pads) j x
    other-shows j x high =
        elim (nat_lt 1 j) as (λ b. nat_lt 1 j ≡ b → cond b (mixed x (pad_of pads j)) x
        ≡ cond b (mixed x (pad_of (moved_last shape old new pads) j)) x) [
          | true ↦ λ e. ap (mixed x) (sym (other-kept j (ltb-true 1 j e) high))
          | false ↦ λ e. refl
        ] refl

    -- and so does the last one, of what the new halves are put to
    pub last-shows : (x y rest : Halves) → x ≡ mixed old rest → y ≡ mixed new rest →
        masked pads shape.servers x ≡ masked (moved_last shape old new pads) shape.servers y
    last-shows x y rest from to =
        let after : List Halves = moved_last shape old new pads in
        let pad = pad_of pads shape.servers in
        let above : nat_lt 1 shape.servers ≡ true = lt-ltb 1 shape.servers (omega (arith, several)) in
        ap (λ b. cond b (mixed x pad) x) above
        ∙ ap (λ (z : Halves). mixed z pad) from
        ∙ halves-moved n old new rest pad old_sized new_sized
        (pad-sized shape.servers (omega (arith, several)) (omega arith))
        ∙ ap (mixed (mixed new rest)) (sym last-moved)
        ∙ ap (λ (z : Halves). mixed z (pad_of after shape.servers)) (sym to)
        ∙ sym (ap (λ b. cond b (mixed y (pad_of after shape.servers)) y) above)

    pub back : moved_last shape new old (moved_last shape old new pads) ≡ pads
    back =
        let at : ℕ = shape.servers - 2 in
        let after : List Halves = moved_last shape old new pads in
        let pad = pad_of pads shape.servers in
        set-twice pads at (moved old new pad) (moved new old (pad_of after shape.servers))
        ∙ ap (λ (x : Halves). set pads at (moved new old x)) last-moved
        ∙ ap (set pads at) (halves-back n old new pad old_sized new_sized
        (pad-sized shape.servers (omega (arith, several)) (omega arith)))
        ∙ set-get_or pads at blank_halves
