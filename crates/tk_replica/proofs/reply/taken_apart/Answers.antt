-- One more of the reads, and at the end all of them.
use Rattle.std.proofs.Common.{◌≡◌, ◌∷◌, [], ◌++◌, ℕ, List, length, sym, ap, ap₂, ◌∙◌, append_assoc, arith}
use Rattle.std.proofs.lemmas.List.{map-append}
use Rattle.std.specs.Vec.Iter.{into_iter_items}
use Rattle.tk_replica.specs.declared.asker.Asker.{Asker}
use Rattle.tk_replica.specs.Replies.{asker_of}
use Rattle.tk_replica.proofs.Paired.{both-push}
use Rattle.tk_replica.proofs.reply.taken_apart.Goals as goal

pub loop-read-preserved : goal.loop-read-preserved
loop-read-preserved c =
    let at = c.loop-read in
    let read = c.in-Some.read in
    let steps : into_iter_items at.read-iterator ≡ read ∷ into_iter_items c.next.new.self =
    c.in-Some.ensures.steps.0
    in
    let was = at.invariant.counted in
    let gone = c.in-Some.ensures.steps.1 in
    let short = ap length steps in
    record {
      all = append_assoc at.yielded (read ∷ []) _ ∙ rw (← steps) at.invariant.all;
      askers =
          c.in_ok-push.ensures.items
          ∙ ap₂ (λ (those : List Asker) (one : Asker). those ++ one ∷ []) at.invariant.askers
          c.of.ensures
          ∙ sym (map-append asker_of at.yielded (read ∷ []));
      vectors =
          c.in_ok-push_both.ensures
          ∙ ap (λ (vs : List (List ℕ)). vs ++ read.first ∷ read.second ∷ []) at.invariant.vectors
          ∙ sym (both-push at.yielded read);
      counted = omega arith;
    }
