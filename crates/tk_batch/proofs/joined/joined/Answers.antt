-- One more of the parts.
use Rattle.std.proofs.Common.{◌≡◌, ◌∷◌, [], ◌++◌, length, sym, ap, ◌∙◌, subst, append_assoc, arith}
use Rattle.std.specs.Vec.Iter.{into_iter_items}
use Rattle.std.specs.Prelude.{Ok}
use Rattle.tk_batch.specs.Parts.{Part, Joins}
use Rattle.tk_batch.proofs.Joining.{joins-more}
use Rattle.tk_batch.proofs.joined.joined.Goals as goal

pub loop-part-preserved : goal.loop-part-preserved
loop-part-preserved c =
    let at = c.loop-part in
    let x = c.in-Some.part in
    let steps : into_iter_items at.part-iterator ≡ x ∷ into_iter_items c.next.new.self = c.in-Some.ensures.steps.0 in
    let part = c.in_ok-part.part in
    let new = c.append.new.self.items in (
      append_assoc at.yielded (x ∷ []) _ ∙ rw (← steps) at.invariant.0,
      subst (λ (y : Part). Joins (at.yielded ++ y ∷ []) new) (sym c.in_ok-part.was)
          (subst (Joins (at.yielded ++ Ok part ∷ [])) (sym c.in_ok-append.ensures.items)
          (joins-more at.yielded at.all.items part at.invariant.1)),
      let was = at.invariant.2 in
          let gone = c.in-Some.ensures.steps.1 in
          let short = ap length steps in
          omega arith,
    )
