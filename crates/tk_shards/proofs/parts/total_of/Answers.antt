-- One part more.
use Rattle.std.proofs.Common.{◌≡◌, ◌∙◌, ◌∷◌, [], ◌++◌, ℕ, List, length, map, ap, sym, subst, append_assoc, arith}
use Rattle.std.specs.Prelude.{Ok}
use Rattle.std.specs.List.{All}
use Rattle.std.specs.Vec.Iter.{into_iter_items}
use Rattle.std.proofs.lemmas.List.Elements.{All-head, All-tail}
use Rattle.tk_shards.specs.Parts.{Part, AddUp, HasLengths, xor_rows}
use Rattle.tk_shards.proofs.Totals.{added-more, lengths-xor_rows}
use Rattle.tk_shards.proofs.parts.total_of.Goals as goal

pub loop-part-preserved : goal.loop-part-preserved
loop-part-preserved c =
    let at = c.loop-part in
    let was = at.invariant in
    let x = c.in-Some.part in
    let rest = into_iter_items c.next.new.self in
    let steps : into_iter_items at.part-iterator ≡ x ∷ rest = c.in-Some.ensures.steps.0 in
    let part = c.in_ok-part.part in
    let same : x ≡ Ok part = c.in_ok-part.was in
    let new : c.in_ok-all-2.all.items ≡ xor_rows at.all.items part.items =
    c.in_ok-all-2.ensures ∙ ap (xor_rows at.all.items) c.as_slice.ensures.value in
    let alike : All (HasLengths (map length at.all.items)) (x ∷ rest) =
    subst (All (HasLengths (map length at.all.items))) steps was.alike in
    let long : map length part.items ≡ map length at.all.items =
    subst (HasLengths (map length at.all.items)) same
    (All-head (HasLengths (map length at.all.items)) x rest alike) in
    record {
      order = append_assoc at.yielded (x ∷ []) _ ∙ rw (← steps) was.order;
      counted =
          let before = was.counted in
          let gone = c.in-Some.ensures.steps.1 in
          let short = ap length steps in
          omega arith;
      added =
          subst (λ (y : Part). AddUp c.in_ok-all.all.items (at.yielded ++ y ∷ []) c.in_ok-all-2.all.items) (sym same)
          (subst (AddUp c.in_ok-all.all.items (at.yielded ++ Ok part ∷ [])) (sym new)
          (added-more c.in_ok-all.all.items at.yielded at.all.items part was.added));
      alike =
          subst (λ (ns : List ℕ). All (HasLengths ns) rest)
          (sym (ap (map length) new ∙ lengths-xor_rows at.all.items part.items long))
          (All-tail (HasLengths (map length at.all.items)) x rest alike);
    }
