-- What is said in one more phase stands after the others, and at the end all is.
use Rattle.std.proofs.Common.{◌≡◌, ◌∙◌, ℕ, ◌-◌, [], ap, arith, flat_map}
use Rattle.std.specs.List.{range_with_len}
use Rattle.tk_make.specs.Making.{said_in_phase}
use Rattle.tk_make.proofs.Ranges.{behind_range}
use Rattle.tk_make.proofs.says.make_says.Goals as goal

pub loop-phase-preserved : goal.loop-phase-preserved
loop-phase-preserved c =
    behind_range (said_in_phase c.args.number) 1 c.loop-phase.phase [] c.loop-phase.auto.phase
    c.loop-phase.invariant c.in_ok-push_phase.ensures

pub returns : goal.returns
returns c =
    let end : c.loop-phase.phase ≡ 9 = omega arith in
    c.from_vec.ensures ∙ c.loop-phase.invariant
    ∙ ap (λ (n : ℕ). flat_map (said_in_phase c.args.number) (range_with_len 1 (n - 1))) end
