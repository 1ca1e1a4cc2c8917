-- Each line is its turn, up to the one that ends them.
use Rattle.std.proofs.Common.{◌≡◌, [], codes, refl, rules}
use Rattle.tk_script.specs.Reading.{alone, read_turn}
use Rattle.tk_script.specs.Stands.{stands}
use Rattle.tk_script.proofs.AnswerLaws.{refused_as, told_refused}
use Rattle.tk_script.proofs.PlaceLaws.{end_early, end_here, end_refused}
use Rattle.tk_script.proofs.TurnsSoFar.{no_turns, turns_refused, turns_end, turns_done, turns_more}
use Rattle.tk_script.proofs.history_section.turns_of.Goals as goal

pub turns-init : goal.turns-init
turns-init c =
    let none : c.new-lines.result.items ≡ [] = search rules in
    record { so_far = no_turns (stands c.args.start) c.new-lines.result.items none }

pub returns-in_err-line : goal.returns-in_err-line
returns-in_err-line c = search (rules, told_refused, turns_refused, end_early)

pub from_vec-requires : goal.from_vec-requires
from_vec-requires c =
    turns_end (stands c.args.start) (stands c.turns.here) c.turns.lines.items
    c.turns.invariant.so_far c.push.new.self.items (search rules)

pub returns-then-is_end : goal.returns-then-is_end
returns-then-is_end c =
    let end : c.in_ok-line.line.now ≡ codes "end" = search rules in
    let s = c.turns.invariant.so_far in
    turns_done (stands c.args.start) (stands c.turns.here) c.turns.lines.items s
    (stands c.in_ok-line.behind) c.from_vec.result
    (end_here (alone read_turn) s.kinds (stands c.turns.here) c.in_ok-line.line.now
    (stands c.in_ok-line.behind)
    (record { number = c.in_ok-line.ensures.number; lines = c.in_ok-line.ensures.line }) end
    s.kinds refl)
    (search rules)

pub returns-in_default : goal.returns-in_default
returns-in_default c = search (rules, refused_as, turns_refused, end_refused)

pub turns-preserved : goal.turns-preserved
turns-preserved c =
    let other : c.in_ok-line.line.now ≡ codes "end" → ⊥ = search rules in
    record {
      so_far = turns_more (stands c.args.start) (stands c.turns.here) c.turns.lines.items
          c.turns.invariant.so_far c.in_ok-line.line.now (stands c.in_ok-line.behind)
          c.in-Some.kind c.push-in-turns.new.self.items
          (record { number = c.in_ok-line.ensures.number; lines = c.in_ok-line.ensures.line })
          other (search rules) (search rules);
    }
