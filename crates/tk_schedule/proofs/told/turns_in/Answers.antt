-- One more turn has the next lines, and the bad line is left to those after them.
use Rattle.std.proofs.Common.{◌≡◌, ◌∙◌, ◌+◌, ◌-◌, ◌++◌, [], ◌∷◌, length, ap, arith, length-append, rules, refl, List}
use Rattle.std.specs.Prelude.{ℕ, None}
use Rattle.std.proofs.lemmas.Result.{err_from_is_err_and}
use Rattle.tk_shape.specs.Lengths.{turn_count}
use Rattle.tk_schedule.specs.Due.{Due, first_bad}
use Rattle.tk_schedule.specs.Raw.{kinds}
use Rattle.tk_schedule.proofs.LineLaws.{legal-push, told-push, due_from, due_from-step, bad_line-is, names_err}
use Rattle.tk_schedule.proofs.told.turns_in.Goals as goal

pub turns-init : goal.turns-init
turns-init c = record {
  counted = search rules;
  legal = λ k h. absurd (omega arith);
  told = rw c.new-turns.ensures.items refl;
  ends = c.requires;
  bad = bad_line-is c.args.shape.now c.args.raw.now;
}

pub returns-in_err-told-clause-bad : goal.returns-in_err-told-clause-bad
returns-in_err-told-clause-bad c =
    let behind = due_from c.args.shape.now (c.turns.turn + 1)
    (turn_count c.args.shape.now - (c.turns.turn + 1)) in
    let left = c.turns.invariant.bad
    ∙ ap (λ (ds : List Due). first_bad c.args.shape.now ds c.turns.lines.now)
    (due_from-step c.args.shape.now c.turns.turn (turn_count c.args.shape.now) (omega arith)) in
    let p = err_from_is_err_and c.from_residual.result c.from_residual.ensures.1 in
    rw (p.1, p.2) (names_err {X = ℕ} {Y = ℕ} (λ x. None) (λ x. None) c.in_err-told.field-0.0 _ _
    left (c.in_err-told.ensures.bad behind))

pub turns-preserved : goal.turns-preserved
turns-preserved c =
    let shape = c.args.shape.now in
    let pushed : c.push.new.self.items ≡ c.turns.turns.items ++ c.in_ok-told.told ∷ [] = search
    rules in
    let behind = due_from shape (c.turns.turn + 1) (turn_count shape - (c.turns.turn + 1)) in
    record {
      counted = omega (
        arith,
        ap length pushed,
        length-append c.turns.turns.items
            (c.in_ok-told.told ∷ []),
        c.turns.invariant.counted,
      );
      legal = rw pushed (legal-push shape c.turns.turns.items c.in_ok-told.told c.turns.turn
          c.turns.invariant.counted
          c.turns.invariant.legal c.in_ok-told.ensures.legal);
      told = rw pushed (told-push shape (kinds c.args.raw.now) c.turns.turns.items c.in_ok-told.told
          c.turns.turn
          (kinds c.turns.lines.now) (kinds c.in_ok-told.behind.now) c.turns.invariant.counted
          c.turns.invariant.told
          c.in_ok-told.ensures.told);
      ends = c.in_ok-told.ensures.ends;
      bad = c.turns.invariant.bad
          ∙ ap (λ (ds : List Due). first_bad shape ds c.turns.lines.now)
          (due_from-step shape c.turns.turn (turn_count shape) (omega arith))
          ∙ c.in_ok-told.ensures.bad behind;
    }
