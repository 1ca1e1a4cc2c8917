-- A search has no end exactly where no placement exists.
use Rattle.std.proofs.Common.{◌≡◌, ◌↔◌, ℕ, ◌<◌, refl, sym, ◌∙◌, ap, length, true, false, true≢false}
use Rattle.std.specs.Prelude.{Option, Some, None, is_some}
use Rattle.tk_place.specs.Place.{Others, Reached, lowest_empty, fit, search_end, reached}
use Rattle.tk_place.specs.Pairs.{pairs_with}
use Rattle.tk_place.specs.Table.{IsTable}
use Rattle.tk_place.proofs.Offers.{nothing_fits, fit_by_placement, path_to_end, placed_along}
use Rattle.tk_lists.proofs.Offers.{found-passes}

-- where it ends, there is an empty slot
pub ends_in_room : (T : Others) (new : ℕ × ℕ) (end : Reached) → search_end T new ≡ Some end →
    is_some (lowest_empty T end.bucket) ≡ true
unfolding search_end
ends_in_room T new end e =
    found-passes (λ p. is_some (lowest_empty T p.bucket)) (reached T new) end e

-- where it ends, all fit
fit_at_end : (depth : ℕ) (T : Others) (new : ℕ × ℕ) (end : Reached) → IsTable depth T →
    search_end T new ≡ Some end → (o : Option ℕ) → lowest_empty T end.bucket ≡ o →
    fit (length T) depth (pairs_with T new) ≡ true
fit_at_end depth T new end table ended None empty =
    absurd (true≢false (sym (ends_in_room T new end ended) ∙ ap is_some empty))
fit_at_end depth T new end table ended (Some slot) empty =
    let path = path_to_end T new end ended in
    let placement = placed_along T depth new end.bucket slot end.through table path empty in
    fit_by_placement (length T) depth (pairs_with T new) placement.0 placement.1

no_end : (depth : ℕ) (T : Others) (new : ℕ × ℕ) → IsTable depth T →
    fit (length T) depth (pairs_with T new) ≡ false →
    (o : Option Reached) → search_end T new ≡ o → search_end T new ≡ None
no_end depth T new table no_fit None ended = ended
no_end depth T new table no_fit (Some end) ended =
    let fits = fit_at_end depth T new end table ended (lowest_empty T end.bucket) refl in
    absurd (true≢false (sym fits ∙ no_fit))

-- The search has no end exactly where no placement exists.
pub search-is_exact : (depth : ℕ) (T : Others) (new : ℕ × ℕ) →
    IsTable depth T → new.0 < length T → new.1 < length T →
    (search_end T new ≡ None) ↔ (fit (length T) depth (pairs_with T new) ≡ false)
search-is_exact depth T new table first second = (
  nothing_fits T depth new table first second,
  λ no_fit. no_end depth T new table no_fit (search_end T new) refl,
)
