-- A line with too few parts, or without a phase or a tick, says nothing of a history.
use Rattle.std.proofs.Common.{◌≡◌, ◌∷◌, [], List, ℕ, sym, ◌∙◌, Bor, None}
use Rattle.tk_script.specs.Reading.{parts_of, number_spelled}
use Rattle.tk_script.proofs.OptionLaws.{none-then, some-then, if-none}
use Rattle.tk_script.proofs.TurnParts.{kind-one, kind-two, kind-three, kind-no_phase, kind-no_tick, parts-four}
use Rattle.tk_script.proofs.turn_line.head_of.Goals as goal

-- what stands after a part
abbrev IsBehind : List ℕ → List ℕ → Bor (List ℕ) → Type 0
IsBehind text part rest = parts_of text ≡ part ∷ parts_of rest.now

pub returns-in_err-rest-clause-none : goal.returns-in_err-rest-clause-none
returns-in_err-rest-clause-none c =
    let line = c.args.line.now in
    let word = c.first_part.result.0.now in
    let one : parts_of line ≡ word ∷ [] =
    none-then c.first_part.result.1 _ c.in_err-rest.was c.first_part.ensures.none
    in
    if-none _ _ (kind-one line word one)

pub returns-in_err-rest-2-clause-none : goal.returns-in_err-rest-2-clause-none
returns-in_err-rest-2-clause-none c =
    let line = c.args.line.now in
    let word = c.first_part.result.0.now in
    let rest = c.in_ok-rest.field-0 in
    let phase = c.first_part-2.result.0.now in
    let one = some-then c.first_part.result.1 rest (IsBehind line word) c.in_ok-rest.was
    c.first_part.ensures.some
    in
    let two : parts_of rest.now ≡ phase ∷ [] =
    none-then c.first_part-2.result.1 _ c.in_err-rest-2.was c.first_part-2.ensures.none
    in
    if-none _ _ (kind-two line word rest.now phase one two)

pub returns-in_err-rest-3-clause-none : goal.returns-in_err-rest-3-clause-none
returns-in_err-rest-3-clause-none c =
    let line = c.args.line.now in
    let word = c.first_part.result.0.now in
    let rest = c.in_ok-rest.field-0 in
    let phase = c.first_part-2.result.0.now in
    let more = c.in_ok-rest-2.field-0 in
    let tick = c.first_part-3.result.0.now in
    let one = some-then c.first_part.result.1 rest (IsBehind line word) c.in_ok-rest.was
    c.first_part.ensures.some
    in
    let two = some-then c.first_part-2.result.1 more (IsBehind rest.now phase)
    c.in_ok-rest-2.was c.first_part-2.ensures.some
    in
    let three : parts_of more.now ≡ tick ∷ [] =
    none-then c.first_part-3.result.1 _ c.in_err-rest-3.was c.first_part-3.ensures.none
    in
    if-none _ _ (kind-three line word rest.now phase more.now tick one two three)

pub returns-in_err-phase-clause-none : goal.returns-in_err-phase-clause-none
returns-in_err-phase-clause-none c =
    let line = c.args.line.now in
    let word = c.first_part.result.0.now in
    let rest = c.in_ok-rest.field-0 in
    let phase = c.first_part-2.result.0.now in
    let more = c.in_ok-rest-2.field-0 in
    let tick = c.first_part-3.result.0.now in
    let last = c.in_ok-rest-3.rest in
    let one = some-then c.first_part.result.1 rest (IsBehind line word) c.in_ok-rest.was
    c.first_part.ensures.some
    in
    let two = some-then c.first_part-2.result.1 more (IsBehind rest.now phase)
    c.in_ok-rest-2.was c.first_part-2.ensures.some
    in
    let three = some-then c.first_part-3.result.1 last (IsBehind more.now tick)
    c.in_ok-rest-3.was c.first_part-3.ensures.some
    in
    let none : number_spelled phase ≡ None = sym c.number_of.ensures.spelled ∙ c.in_err-phase.was in
    if-none _ _ (kind-no_phase line word phase tick last.now
    (parts-four line word rest.now phase more.now tick last.now one two three) none)

pub returns-in_err-tick-clause-none : goal.returns-in_err-tick-clause-none
returns-in_err-tick-clause-none c =
    let line = c.args.line.now in
    let word = c.first_part.result.0.now in
    let rest = c.in_ok-rest.field-0 in
    let phase = c.first_part-2.result.0.now in
    let more = c.in_ok-rest-2.field-0 in
    let tick = c.first_part-3.result.0.now in
    let last = c.in_ok-rest-3.rest in
    let one = some-then c.first_part.result.1 rest (IsBehind line word) c.in_ok-rest.was
    c.first_part.ensures.some
    in
    let two = some-then c.first_part-2.result.1 more (IsBehind rest.now phase)
    c.in_ok-rest-2.was c.first_part-2.ensures.some
    in
    let three = some-then c.first_part-3.result.1 last (IsBehind more.now tick)
    c.in_ok-rest-3.was c.first_part-3.ensures.some
    in
    let none : number_spelled tick ≡ None = sym c.number_of-2.ensures.spelled ∙ c.in_err-tick.was in
    if-none _ _ (kind-no_tick line word phase tick last.now
    (parts-four line word rest.now phase more.now tick last.now one two three) none)
