-- Reply pads taken off one after the other.
use Rattle.std.proofs.Common.{◌≡◌, ℕ, suc, ◌+◌, ◌-◌, ◌≤◌, ◌<◌, List, ◌∷◌, length, drop}
use Rattle.std.proofs.Common.{ap, sym, subst, ◌∙◌, arith, drop-cons}
use Rattle.std.proofs.lemmas.List.{drop_all}
use Rattle.tk_relay.specs.Halves.{Halves, HasHalves, blank_halves, mixed, joined}
use Rattle.tk_relay.specs.Pads.{pad_of}
use Rattle.tk_relay.specs.Replies.{zero_halves}
use Rattle.tk_relay.proofs.Mixing.{mixed-assoc, mixed-comm, mixed-sized, zeros-mixed}

-- halves of which the pads of the servers before this one are taken off
pub record Unmasking (n : ℕ) (start : Halves) (pads : List Halves) (server : ℕ) (sums : Halves) : Type 0 where
  pub sized : HasHalves n sums
  pub left : mixed sums (joined n (drop (server - 2) pads)) ≡ mixed start (joined n pads)

pub unmasking-next : (n : ℕ) (start : Halves) (pads : List Halves) (server : ℕ) (sums new : Halves) →
    2 ≤ server → server - 2 < length pads → HasHalves n (pad_of pads server) →
    Unmasking n start pads server sums → new ≡ mixed sums (pad_of pads server) →
    Unmasking n start pads (server + 1) new
unmasking-next n start pads server sums new low within pad_sized so_far is =
    let pad = pad_of pads server in
    let next : suc (server - 2) ≡ server + 1 - 2 = omega (arith, low) in
    let rest = drop (server + 1 - 2) pads in
    let split : drop (server - 2) pads ≡ pad ∷ drop (server + 1 - 2) pads =
    drop-cons pads (server - 2) blank_halves within
    ∙ ap (λ k. pad ∷ drop k pads) next
    in
    record {
      sized = subst (HasHalves n) (sym is) (mixed-sized n sums pad so_far.sized pad_sized);
      left =
          ap (λ (x : Halves). mixed x (joined n rest)) is
          ∙ mixed-assoc sums pad (joined n rest)
          ∙ ap (λ (xs : List Halves). mixed sums (joined n xs)) (sym split)
          ∙ so_far.left;
    }

pub unmasking-last : (n : ℕ) (start : Halves) (pads : List Halves) (server : ℕ) (sums : Halves) →
    length pads ≤ server - 2 → Unmasking n start pads server sums →
    sums ≡ mixed start (joined n pads)
unmasking-last n start pads server sums past so_far =
    sym (zeros-mixed n sums so_far.sized)
    ∙ mixed-comm (zero_halves n) sums
    ∙ ap (λ (xs : List Halves). mixed sums (joined n xs)) (sym (drop_all (server - 2) pads past))
    ∙ so_far.left
