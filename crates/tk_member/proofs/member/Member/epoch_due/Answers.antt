-- A turn of the run is of one of its phases.
use Rattle.std.proofs.Common.{◌≡◌, ◌∙◌, ◌<◌, ◌≤◌, ◌*◌, ◌/◌, ap, sym, subst, arith, ℕ}
use Rattle.tk_shape.specs.declared.shape.Shape.{Shape}
use Rattle.tk_shape.specs.Lengths.{turn_count}
use Rattle.tk_member.specs.Members.{MemberState}
use Rattle.tk_member.proofs.member.Member.epoch_due.Goals as goal

within-run : (g ticks phases : ℕ) → g < phases * ticks → g / ticks ≤ phases
within-run g ticks phases low = grind (arith, low)

pub returns-clause-in_run : goal.returns-clause-in_run
returns-clause-in_run c =
    let asked = ap (λ (m : MemberState). m.asked) c.self.view_is in
    let shape : c.shape.result.now ≡ c.args.self.now.client.shape =
    c.shape.ensures ∙ ap (λ (m : MemberState). m.client.shape) c.self.view_is
    in
    let low : c.self.inside.asked < turn_count c.args.self.now.client.shape =
    subst (λ (n : ℕ). n < turn_count c.args.self.now.client.shape) (sym asked) c.requires
    in
    subst (λ (s : Shape). c.self.inside.asked / s.ticks ≤ c.args.self.now.client.shape.phases)
    (sym shape)
    (within-run c.self.inside.asked c.args.self.now.client.shape.ticks
    c.args.self.now.client.shape.phases low)
