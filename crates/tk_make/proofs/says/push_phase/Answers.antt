-- What is said in one more tick stands after the others, and at the end all is.
use Rattle.std.proofs.Common.{◌≡◌, ◌∙◌, ℕ, ◌-◌, ◌++◌, ap, arith, flat_map}
use Rattle.std.specs.List.{range_with_len}
use Rattle.tk_make.specs.Making.{said_in_tick}
use Rattle.tk_make.proofs.Ranges.{behind_range}
use Rattle.tk_make.proofs.says.push_phase.Goals as goal

pub loop-tick-preserved : goal.loop-tick-preserved
loop-tick-preserved c =
    behind_range (said_in_tick c.args.number c.args.phase) 1 c.loop-tick.tick c.args.says.now.items
    c.loop-tick.auto.tick c.loop-tick.invariant c.in_ok-push_tick.ensures

pub returns : goal.returns
returns c =
    let said = said_in_tick c.args.number c.args.phase in
    let end : c.loop-tick.tick ≡ 5 = omega arith in
    c.loop-tick.invariant
    ∙ ap (λ (n : ℕ). c.args.says.now.items ++ flat_map said (range_with_len 1 (n - 1))) end
