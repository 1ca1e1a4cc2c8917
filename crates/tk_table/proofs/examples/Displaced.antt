-- Chains, displaced writes and expired ones, computed.
use Rattle.std.specs.Prelude.{◌≡◌, ℕ, List, [], ◌∷◌, map, replicate, true, false}
use Rattle.std.proofs.Common.{refl}
use Rattle.tk_shape.specs.declared.shape.Shape.{Shape}
use Rattle.tk_shape.specs.Limits.{numbers_in}
use Rattle.tk_shape.proofs.Offers.{shape_of}
use Rattle.tk_frames.specs.Order.{Record}
use Rattle.tk_table.specs.Table.{retained, is_displaced}
use Rattle.tk_table.proofs.Computing.{computing}

abbrev pub narrow : Shape
unfolding computing
narrow = shape_of (numbers_in 1 (2 ∷ 8 ∷ 1 ∷ 8 ∷ 24 ∷ 64 ∷ 1 ∷ 0 ∷ 2 ∷ 2 ∷ 1 ∷ 1 ∷ [])) refl refl

abbrev pub short : Shape
unfolding computing
short = shape_of (numbers_in 1 (2 ∷ 8 ∷ 1 ∷ 2 ∷ 24 ∷ 64 ∷ 1 ∷ 0 ∷ 2 ∷ 2 ∷ 1 ∷ 1 ∷ [])) refl refl

-- a write with its position and buckets; the rest doesn't matter to the table
abbrev at : ℕ → ℕ → ℕ → Record
at position first second =
    record { position = position; write = record { client = 0; turn = 0; first = first; second = second; hits = []; block = replicate 24 7 } }

abbrev positions : List Record → List ℕ
positions R = map (λ r. r.position) R

pub chain_retained : positions (retained narrow (at 1 0 1 ∷ at 2 1 2 ∷ at 3 0 1 ∷ [])) ≡ (1 ∷ 2 ∷ 3 ∷ [])
unfolding computing
chain_retained = refl

pub displaced : is_displaced narrow (at 1 0 1 ∷ at 2 0 1 ∷ []) (at 3 0 1) ≡ true
unfolding computing
displaced = refl

pub not_displaced : is_displaced narrow (at 1 0 1 ∷ []) (at 2 0 1) ≡ false
unfolding computing
not_displaced = refl

pub expired_retained : positions (retained short (at 1 0 1 ∷ at 2 0 1 ∷ at 3 0 1 ∷ [])) ≡ (2 ∷ 3 ∷ [])
unfolding computing
expired_retained = refl

pub counts_when_displaced_middle : is_displaced short (at 1 0 0 ∷ []) (at 2 0 0) ≡ true
unfolding computing
counts_when_displaced_middle = refl

pub equal_pair_retained : positions (retained narrow (at 1 3 3 ∷ at 2 3 3 ∷ [])) ≡ (1 ∷ [])
unfolding computing
equal_pair_retained = refl

-- the third goes in, since the first has left the window and the second was displaced
pub counts_when_displaced : positions (retained short (at 1 0 0 ∷ at 2 0 0 ∷ at 3 0 0 ∷ [])) ≡ (3 ∷ [])
unfolding computing
counts_when_displaced = refl
