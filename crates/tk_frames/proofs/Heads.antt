-- The first two bytes of a frame, and what passes the checks on them.
use Rattle.std.proofs.Common.{◌≡◌, ℕ, ◌≤◌, List, [], ◌∷◌, ◌++◌, length, get_or, drop, None, ap, ◌∙◌, arith, eq-eqb}
use Rattle.std.proofs.lemmas.Bool.{eqb-true}
use Rattle.tk_frames.specs.Faults.{Check, first_fault, length_check, kind_check, version_check, head_checks}
use Rattle.tk_frames.proofs.Checking.{none-first, none-both}

pub head-join : (kind : ℕ) (bytes : List ℕ) → 2 ≤ length bytes → get_or bytes 0 0 ≡ kind → get_or bytes 1 0 ≡ 1 → bytes ≡ kind ∷ 1 ∷ drop 2 bytes
head-join kind [] long k v = absurd (omega arith)
head-join kind (a ∷ []) long k v = absurd (omega arith)
head-join kind (a ∷ b ∷ bytes) long k v = ap (λ x. x ∷ b ∷ bytes) k ∙ ap (λ y. kind ∷ y ∷ bytes) v

-- what bytes are that pass
pub record HasHead (want kind : ℕ) (bytes : List ℕ) : Type 0 where
  pub long : length bytes ≡ want
  pub first : get_or bytes 0 0 ≡ kind
  pub second : get_or bytes 1 0 ≡ 1

pub head_stands : (want kind : ℕ) (bytes : List ℕ) (others : List Check) → first_fault (head_checks want kind bytes ++ others) ≡ None →
    HasHead want kind bytes × (first_fault others ≡ None)
head_stands want kind bytes others e =
    let l = none-first (length_check want bytes) (kind_check kind bytes ∷ version_check bytes ∷ others) e in
    let k = none-first (kind_check kind bytes) (version_check bytes ∷ others) l.1 in
    let v = none-first (version_check bytes) others k.1 in
    (record { long = eqb-true _ _ l.0; first = eqb-true _ _ k.0; second = eqb-true _ _ v.0 }, v.1)

pub head_passes : (want kind : ℕ) (bytes : List ℕ) (others : List Check) → HasHead want kind bytes → first_fault others ≡ None →
    first_fault (head_checks want kind bytes ++ others) ≡ None
head_passes want kind bytes others head rest =
    none-both (length_check want bytes) (kind_check kind bytes ∷ version_check bytes ∷ others) (eq-eqb _ _ head.long)
    (none-both (kind_check kind bytes) (version_check bytes ∷ others) (eq-eqb _ _ head.first)
    (none-both (version_check bytes) others (eq-eqb _ _ head.second) rest))
