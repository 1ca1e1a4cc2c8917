-- A window, write by write.
use Rattle.std.proofs.Common.{◌≡◌, ℕ, suc, ◌+◌, ◌-◌, ◌*◌, ◌<◌, ◌≤◌, true, false, cond, nat_lt, Bool, List, [], ◌∷◌}
use Rattle.std.proofs.Common.{◌++◌, drop, length, sym, ap, ap₂, ◌∙◌, arith, append_assoc}
use Rattle.std.specs.Prelude.{Option, Some, None, ◌&&◌}
use Rattle.std.specs.List.{list_all}
use Rattle.std.proofs.lemmas.Bool.{cond-true, cond-false, lt-ltb, le-ltb}
use Rattle.std.proofs.lemmas.List.{append-nil, length-drop}
use Rattle.tk_shape.specs.declared.shape.Shape.{Shape}
use Rattle.tk_frames.specs.Fields.{number_at, long_at, numbers}
use Rattle.tk_checkpoint.specs.declared.error.RestoreError.{RestoreError}
use Rattle.tk_checkpoint.specs.declared.error.RestoreError.TheVariants as refusal
use Rattle.tk_checkpoint.specs.Saved.{entry_len}
use Rattle.tk_checkpoint.specs.Reading.{positions_from, hits_from}
use Rattle.tk_checkpoint.specs.Sound.{first_refusal, is_sound_write, window_checks_from}

-- one of those that are left, and the others
one_of : (count at : ℕ) → at < count → count - at ≡ suc (count - (at + 1))
one_of count at low = omega arith

pub room_for_others : (count at len : ℕ) (rest next : List ℕ) → at < count → (count - at) * len ≤ length rest →
    next ≡ drop len rest → (count - (at + 1)) * len ≤ length next
room_for_others count at len rest next low long is =
    let one : (count - at) * len ≡ len + (count - (at + 1)) * len = ap (λ n. n * len) (one_of count at low) ∙ omega arith in
    let behind = ap length is ∙ length-drop len rest in
    omega (arith, one, long, behind)

-- ---- the numbers of a write

numbers_from : (count at : ℕ) (rest : List ℕ) → at < count →
    numbers (count - at) rest ≡ number_at 0 rest ∷ numbers (count - (at + 1)) (drop 4 rest)
unfolding numbers
numbers_from count at rest low = ap (λ n. numbers n rest) (one_of count at low)

pub numbers_done : (count at : ℕ) (rest : List ℕ) → count ≤ at → numbers (count - at) rest ≡ []
unfolding numbers
numbers_done count at rest high =
    let none : count - at ≡ 0 = omega arith in ap (λ n. numbers n rest) none

-- the first of those that are left is below the limit, or isn't
pub below_on : (limit count at n : ℕ) (rest next : List ℕ) (total : Bool) → at < count → n ≡ number_at 0 rest →
    n < limit → next ≡ drop 4 rest →
    total ≡ list_all (λ h. nat_lt h limit) (numbers (count - at) rest) →
    total ≡ list_all (λ h. nat_lt h limit) (numbers (count - (at + 1)) next)
below_on limit count at n rest next total low is below behind left =
    let others = numbers (count - (at + 1)) (drop 4 rest) in
    left ∙ ap (list_all (λ h. nat_lt h limit)) (numbers_from count at rest low)
    ∙ ap (λ m. nat_lt m limit && list_all (λ h. nat_lt h limit) others) (sym is)
    ∙ ap (λ b. b && list_all (λ h. nat_lt h limit) others) (lt-ltb n limit below)
    ∙ ap (λ ys. list_all (λ h. nat_lt h limit) (numbers (count - (at + 1)) ys)) (sym behind)

pub below_stops : (limit count at n : ℕ) (rest : List ℕ) (total : Bool) → at < count → n ≡ number_at 0 rest →
    limit ≤ n → total ≡ list_all (λ h. nat_lt h limit) (numbers (count - at) rest) → total ≡ false
below_stops limit count at n rest total low is above left =
    let others = numbers (count - (at + 1)) (drop 4 rest) in
    left ∙ ap (list_all (λ h. nat_lt h limit)) (numbers_from count at rest low)
    ∙ ap (λ m. nat_lt m limit && list_all (λ h. nat_lt h limit) others) (sym is)
    ∙ ap (λ b. b && list_all (λ h. nat_lt h limit) others) (le-ltb n limit above)

pub below_done : (limit count at : ℕ) (rest : List ℕ) → count ≤ at →
    list_all (λ h. nat_lt h limit) (numbers (count - at) rest) ≡ true
below_done limit count at rest high = ap (list_all (λ h. nat_lt h limit)) (numbers_done count at rest high)

-- ---- what is read

-- what was read so far, and what is left, with one more
more_read : (front more all : List ℕ) (here others total : List ℕ) → more ≡ front ++ here → all ≡ here ++ others →
    front ++ all ≡ total → more ++ others ≡ total
more_read front more all here others total pushed split left =
    ap (λ ys. ys ++ others) pushed ∙ append_assoc front here others ∙ ap (λ ys. front ++ ys) (sym split) ∙ left

pub all_read : (front rest total : List ℕ) → rest ≡ [] → front ++ rest ≡ total → front ≡ total
all_read front rest total none left = sym (append-nil front) ∙ ap (λ ys. front ++ ys) (sym none) ∙ left

pub numbers_on : (front more rest next total : List ℕ) (count at n : ℕ) → at < count → n ≡ number_at 0 rest →
    more ≡ front ++ n ∷ [] → next ≡ drop 4 rest → front ++ numbers (count - at) rest ≡ total →
    more ++ numbers (count - (at + 1)) next ≡ total
numbers_on front more rest next total count at n low is pushed behind left =
    more_read front more (numbers (count - at) rest) (n ∷ []) (numbers (count - (at + 1)) next) total pushed
    (numbers_from count at rest low
    ∙ ap₂ (λ m ys. m ∷ numbers (count - (at + 1)) ys) (sym is) (sym behind)) left

positions_split : (hits count at : ℕ) (rest : List ℕ) → at < count →
    positions_from hits (count - at) rest
    ≡ long_at 0 rest ∷ positions_from hits (count - (at + 1)) (drop (8 + 4 * hits) rest)
unfolding positions_from
positions_split hits count at rest low = ap (λ n. positions_from hits n rest) (one_of count at low)

pub positions_on : (hits : ℕ) (front more rest next total : List ℕ) (count at p : ℕ) → at < count →
    p ≡ long_at 0 rest → more ≡ front ++ p ∷ [] → next ≡ drop (8 + 4 * hits) rest →
    front ++ positions_from hits (count - at) rest ≡ total →
    more ++ positions_from hits (count - (at + 1)) next ≡ total
positions_on hits front more rest next total count at p low is pushed behind left =
    more_read front more (positions_from hits (count - at) rest) (p ∷ []) (positions_from hits (count - (at + 1)) next) total
    pushed
    (positions_split hits count at rest low
    ∙ ap₂ (λ m ys. m ∷ positions_from hits (count - (at + 1)) ys) (sym is) (sym behind)) left

pub positions_done : (hits count at : ℕ) (rest : List ℕ) → count ≤ at → positions_from hits (count - at) rest ≡ []
unfolding positions_from
positions_done hits count at rest high =
    let none : count - at ≡ 0 = omega arith in ap (λ n. positions_from hits n rest) none

hits_split : (hits count at : ℕ) (rest : List ℕ) → at < count →
    hits_from hits (count - at) rest
    ≡ numbers hits (drop 8 rest) ++ hits_from hits (count - (at + 1)) (drop (8 + 4 * hits) rest)
unfolding hits_from
hits_split hits count at rest low = ap (λ n. hits_from hits n rest) (one_of count at low)

pub hits_on : (hits : ℕ) (front more rest next total : List ℕ) (count at : ℕ) → at < count →
    more ≡ front ++ numbers hits (drop 8 rest) → next ≡ drop (8 + 4 * hits) rest →
    front ++ hits_from hits (count - at) rest ≡ total →
    more ++ hits_from hits (count - (at + 1)) next ≡ total
hits_on hits front more rest next total count at low pushed behind left =
    more_read front more (hits_from hits (count - at) rest) (numbers hits (drop 8 rest))
    (hits_from hits (count - (at + 1)) next) total pushed
    (hits_split hits count at rest low
    ∙ ap (λ ys. numbers hits (drop 8 rest) ++ hits_from hits (count - (at + 1)) ys) (sym behind)) left

pub hits_done : (hits count at : ℕ) (rest : List ℕ) → count ≤ at → hits_from hits (count - at) rest ≡ []
unfolding hits_from
hits_done hits count at rest high =
    let none : count - at ≡ 0 = omega arith in ap (λ n. hits_from hits n rest) none

-- ---- the checks

module _ (shape : Shape) (applied before count at : ℕ) (rest : List ℕ) (total : Option RestoreError) (low : at < count)
    (left : total ≡ first_refusal (window_checks_from shape applied before at (count - at) rest)) where
  split : total
      ≡ cond (is_sound_write shape applied before rest)
      (first_refusal (window_checks_from shape applied (long_at 0 rest) (at + 1) (count - (at + 1)) (drop (entry_len shape) rest)))
      (Some (refusal.Window at))
  unfolding window_checks_from
  split = left ∙ ap (λ n. first_refusal (window_checks_from shape applied before at n rest)) (one_of count at low)

  pub window_on : (p : ℕ) (next : List ℕ) → true ≡ is_sound_write shape applied before rest → p ≡ long_at 0 rest →
      next ≡ drop (entry_len shape) rest →
      total ≡ first_refusal (window_checks_from shape applied p (at + 1) (count - (at + 1)) next)
  window_on p next sound is behind =
      split ∙ cond-true _ _ _ (sym sound)
      ∙ ap₂ (λ q ys. first_refusal (window_checks_from shape applied q (at + 1) (count - (at + 1)) ys)) (sym is) (sym behind)

  pub window_stops : false ≡ is_sound_write shape applied before rest → total ≡ Some (refusal.Window at)
  window_stops unsound = split ∙ cond-false _ _ _ (sym unsound)

pub window_done : (shape : Shape) (applied before count at : ℕ) (rest : List ℕ) → count ≤ at →
    first_refusal (window_checks_from shape applied before at (count - at) rest) ≡ None
unfolding window_checks_from
window_done shape applied before count at rest high =
    let none : count - at ≡ 0 = omega arith in
    ap (λ n. first_refusal (window_checks_from shape applied before at n rest)) none
