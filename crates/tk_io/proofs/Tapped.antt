-- The lists of several taps when bytes come to one of them.
use Rattle.std.proofs.Common.{◌≡◌, ◌≢◌, ℕ, zero, suc, ◌-◌, ◌<◌, ◌≤◌, List, [], ◌∷◌, ◌++◌, length, Some, refl, ap, sym, ◌∙◌, get_or, set, arith}
use Rattle.std.proofs.lemmas.Option.{slice_get-get_or}
use Rattle.std.specs.Prelude.{slice_get}
use Rattle.tk_io.specs.Content.{gained}

-- the list that is written
slice_get-set_same : (lists : List (List ℕ)) (at : ℕ) (x : List ℕ) → at < length lists → slice_get (set lists at x) at ≡ Some x
slice_get-set_same [] at x in_range = absurd (omega (arith, in_range))
slice_get-set_same (l ∷ ls) zero x in_range = refl
slice_get-set_same (l ∷ ls) (suc at) x in_range = slice_get-set_same ls at x (omega (arith, in_range))

slice_get-set_other : (lists : List (List ℕ)) (at k : ℕ) (x : List ℕ) → k ≢ at → slice_get (set lists at x) k ≡ slice_get lists k
slice_get-set_other [] at k x other = refl
slice_get-set_other (l ∷ ls) zero zero x other = absurd (other refl)
slice_get-set_other (l ∷ ls) zero (suc k) x other = refl
slice_get-set_other (l ∷ ls) (suc at) zero x other = refl
slice_get-set_other (l ∷ ls) (suc at) (suc k) x other = slice_get-set_other ls at k x (λ same. other (ap (λ n. suc n) same))

-- a server's list has gained the bytes
pub tapped : (lists : List (List ℕ)) (server : ℕ) (bytes : List ℕ) → 1 ≤ server → server ≤ length lists →
    slice_get ([] ∷ set lists (server - 1) (get_or lists (server - 1) [] ++ bytes)) server ≡ gained (slice_get ([] ∷ lists) server) bytes
tapped lists zero bytes low high = absurd (omega (arith, low))
tapped lists (suc at) bytes low high =
    let in_range : at < length lists = omega (arith, high) in
    let same : suc at - 1 ≡ at = omega arith in
    let was = slice_get-get_or lists at [] in_range in
    ap (λ k. slice_get (set lists k (get_or lists k [] ++ bytes)) at) same
    ∙ slice_get-set_same lists at (get_or lists at [] ++ bytes) in_range
    ∙ ap (λ o. gained o bytes) (sym was)

-- the other lists are as they were
pub others_stay : (lists : List (List ℕ)) (server other : ℕ) (x : List ℕ) → 1 ≤ server → other ≢ server →
    slice_get ([] ∷ set lists (server - 1) x) other ≡ slice_get ([] ∷ lists) other
others_stay lists server zero x low not_it = refl
others_stay lists server (suc k) x low not_it =
    slice_get-set_other lists (server - 1) k x (λ same. not_it (omega (arith, same, low)))
