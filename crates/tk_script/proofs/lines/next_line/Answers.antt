-- The text up to its first line feed, and the text after it.
use Rattle.std.proofs.Common.{◌≡◌, ◌<◌, ◌∷◌, ◌-◌, [], length, take, drop, arith, rules, ap, sym, ◌∙◌, List, ℕ}
use Rattle.std.proofs.lemmas.List.{take_rest}
use Rattle.tk_script.specs.Grammar.{lines_of}
use Rattle.tk_script.proofs.LineLaws.{lines_of-first, lines_of-whole, lines_of-empty, empty_lines}
use Rattle.tk_script.proofs.lines.next_line.Goals as goal

pub returns-in-Some-clause-line : goal.returns-in-Some-clause-line
returns-in-Some-clause-line c =
    let first = lines_of-first c.args.text.now c.in-Some.end
    c.in-Some.ensures.within c.in-Some.ensures.at c.in-Some.ensures.first in
    rw take_rest first

nothing_behind : (text : List ℕ) →
    lines_of (take (length text - length text) (drop (length text) text)) ≡ []
nothing_behind text = ap (λ n. lines_of (take n (drop (length text) text))) none ∙ lines_of-empty
  where
    none : length text - length text ≡ 0
    none = omega arith

pub returns-in-None-clause-line : goal.returns-in-None-clause-line
returns-in-None-clause-line c =
    let some : 0 < length c.args.text.now = search rules in
    let whole = lines_of-whole c.args.text.now some c.in-None.ensures.none in
    whole ∙ ap (λ ls. c.args.text.now ∷ ls) (sym (nothing_behind c.args.text.now))

pub returns-then-is_empty-clause-none : goal.returns-then-is_empty-clause-none
returns-then-is_empty-clause-none c = empty_lines c.args.text.now (search rules)
