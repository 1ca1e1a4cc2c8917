use Rattle.std.proofs.Common.{◌≡◌, ◌∙◌, ◌*◌, ◌/◌, ap, ap₂, arith, sym, subst, List, ℕ}
use Rattle.std.specs.Prelude.{None}
use Rattle.std.proofs.lemmas.Grind.{common_steps}
use Rattle.tk_shards.specs.Division.{first_cut}
use Rattle.tk_shards.proofs.Even.{even_more, even_all, even_divides}
use Rattle.tk_shards.proofs.division.Division.even.Goals as goal

pub loop-s-preserved : goal.loop-s-preserved
loop-s-preserved c =
    let was = c.loop-s.invariant in
    record {
      cuts = rw c.push_reserved.ensures.items
          (even_more c.args.buckets c.args.shards c.loop-s.s c.loop-s.cuts.items _ c.loop-s-test.true
          (ap₂ (λ a b. a * b / c.from-in-loop-s-2.result) c.from.ensures c.from-in-loop-s.ensures
          ∙ ap (λ k. c.loop-s.s * c.args.buckets / k) c.from-in-loop-s-2.ensures)
          was.cuts);
      room = grind (arith, common_steps, was.room, c.push_reserved.ensures.capacity);
    }

pub invariant_of-result : goal.invariant_of-result
invariant_of-result c =
    let made = even_all c.args.buckets c.args.shards c.loop-s.s c.loop-s.cuts.items c.loop-s-test.false
    c.loop-s.invariant.cuts in
    subst (λ (cuts : List ℕ). first_cut 0 0 c.args.buckets cuts ≡ None) (sym made)
    (even_divides c.args.buckets c.args.shards c.requires.some)
