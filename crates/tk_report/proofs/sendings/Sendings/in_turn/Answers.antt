-- The first text that is sent in the turn or later is the turn's, or else none is.
use Rattle.std.proofs.Common.{◌≡◌, ◌∙◌, List, find, ap, sym, subst, length, ltb-true}
use Rattle.std.specs.Prelude.{◌==◌}
use Rattle.std.specs.List.Sorted.{IsNonDecreasingBy}
use Rattle.std.specs.Option.{option_copied}
use Rattle.tk_script.specs.Sent.{Sending}
use Rattle.tk_report.proofs.SendingsLaws.{turn-found, turn-later, turn-past}
use Rattle.tk_report.proofs.sendings.Sendings.in_turn.Goals as goal

pub first_from-requires : goal.first_from-requires
first_from-requires c =
    subst (IsNonDecreasingBy (λ (z : Sending). z.turn)) (sym c.as_slice-sent.ensures.value)
    c.self.invariant

pub returns-in_err-found : goal.returns-in_err-found
returns-in_err-found c =
    let xs = c.as_slice-sent.result.now in
    let g = c.args.turn in
    let same : xs ≡ c.args.self.now = c.as_slice-sent.ensures.value ∙ c.self.view_is in
    let past = c.in_err-found.ensures.lookup.3 in
    ap option_copied c.from_residual.ensures
    ∙ sym (turn-past xs g c.first_from.result past c.first_from.ensures)
    ∙ ap (λ (ys : List Sending). find (λ (z : Sending). z.turn == g) ys) same

pub returns-then-found-turn : goal.returns-then-found-turn
returns-then-found-turn c =
    let xs = c.as_slice-sent.result.now in
    let g = c.args.turn in
    let i = c.first_from.result in
    let y = c.in_ok-found.found.now in
    let same : xs ≡ c.args.self.now = c.as_slice-sent.ensures.value ∙ c.self.view_is in
    let rising =
    subst (IsNonDecreasingBy (λ (z : Sending). z.turn)) (sym c.as_slice-sent.ensures.value)
    c.self.invariant
    in
    let found = c.in_ok-found.ensures.lookup in
    sym (turn-later xs g i y (ltb-true i (length xs) (sym found.0)) found.1
    (λ e. c.if-found-turn.true (ap (λ (z : Sending). z.turn) c.found.view_is ∙ e)) rising
    c.first_from.ensures)
    ∙ ap (λ (ys : List Sending). find (λ (z : Sending). z.turn == g) ys) same

pub returns : goal.returns
returns c =
    let xs = c.as_slice-sent.result.now in
    let g = c.args.turn in
    let i = c.first_from.result in
    let y = c.in_ok-found.found.now in
    let same : xs ≡ c.args.self.now = c.as_slice-sent.ensures.value ∙ c.self.view_is in
    let found = c.in_ok-found.ensures.lookup in
    sym (turn-found xs g i y (ltb-true i (length xs) (sym found.0)) found.1
    (sym (ap (λ (z : Sending). z.turn) c.found.view_is) ∙ c.if-found-turn.false)
    c.first_from.ensures)
    ∙ ap (λ (ys : List Sending). find (λ (z : Sending). z.turn == g) ys) same
