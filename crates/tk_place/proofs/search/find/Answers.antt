use Rattle.std.proofs.Common.{sym, ◌∙◌, true≢false, refl, arith}
use Rattle.tk_place.proofs.Blocked.{blocked, nothing_fits}
use Rattle.tk_place.proofs.Fits.{fit_by_placement}
use Rattle.tk_place.proofs.Moves.{placed_along}
use Rattle.tk_place.proofs.Paths.{path_to_end, moves_to_end}
use Rattle.tk_place.proofs.Walks.{written}
use Rattle.tk_place.proofs.search.find.Goals as goal

pub returns-in-Some-clause-moves : goal.returns-in-Some-clause-moves
returns-in-Some-clause-moves g c =
    let found = c.in-Some.ensures.found in
    let told = c.write_steps-scratch-inside.ensures in
    moves_to_end _ _ _ c.in-Some.end.slot _ found.ended
    (written _ _ _ _ _ told.within (omega (arith, told.within, c.write_steps-scratch-inside.auto.steps, c.deref_mut.ensures.len)) told.steps)

pub returns-in-Some-clause-no_place : goal.returns-in-Some-clause-no_place
returns-in-Some-clause-no_place g c =
    let found = c.in-Some.ensures.found in
    let placement = placed_along _ _ _ _ _ _ c.in-Some.ensures.table (path_to_end _ _ _ found.ended) found.empty in
    (λ e. absurd cc, λ none. absurd (none placement))

pub returns-in-Some-clause-not_fit : goal.returns-in-Some-clause-not_fit
returns-in-Some-clause-not_fit g c =
    let found = c.in-Some.ensures.found in
    let placement = placed_along _ _ _ _ _ _ c.in-Some.ensures.table (path_to_end _ _ _ found.ended) found.empty in
    (λ e. absurd cc, λ unfit. absurd (true≢false (sym (fit_by_placement _ _ _ placement.0 placement.1) ∙ unfit)))

pub returns-in-None-clause-no_place : goal.returns-in-None-clause-no_place
returns-in-None-clause-no_place g c =
    let told = c.in-None.ensures in
    let unfit = nothing_fits _ _ _ told.table c.requires.first c.requires.second told.found in
    (λ _ placement. true≢false (sym (fit_by_placement _ _ _ placement.0 placement.1) ∙ unfit), λ _. refl)

pub returns-in-None-clause-not_fit : goal.returns-in-None-clause-not_fit
returns-in-None-clause-not_fit g c =
    let told = c.in-None.ensures in
    (λ _. nothing_fits _ _ _ told.table c.requires.first c.requires.second told.found, λ _. refl)

pub returns-in-None-clause-blocked : goal.returns-in-None-clause-blocked
returns-in-None-clause-blocked g c =
    let told = c.in-None.ensures in
    λ _. blocked _ _ _ told.table c.requires.first c.requires.second told.found
