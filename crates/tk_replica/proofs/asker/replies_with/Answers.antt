-- The next two sums are those of the next asker.
use Rattle.std.proofs.Common.{◌≡◌, ◌∙◌, ap, ap₂, List, [], ◌∷◌, ◌++◌, ℕ}
use Rattle.std.specs.Vec.Iter.{into_iter_items}
use Rattle.tk_frames.specs.Spelling.{reply_frame}
use Rattle.tk_replica.specs.Replies.{asker_reply, frames_with}
use Rattle.tk_replica.proofs.Paired.{frames-push}
use Rattle.tk_replica.proofs.asker.replies_with.Goals as goal

pub askers-preserved : goal.askers-preserved
askers-preserved c =
    let at = c.askers in
    let asker = c.in-Some.asker.now in
    let behind = c.in-Some.behind.now in
    let first = c.in-Some-next.first in
    let second = c.in-Some-next-2.second in
    let rest = into_iter_items c.next-in-Some.new.self in
    let two : into_iter_items at.rest ≡ first ∷ second ∷ rest =
    c.in-Some-next.ensures.items
    ∙ ap (λ (xs : List (List ℕ)). first ∷ xs) c.in-Some-next-2.ensures.items
    in
    let pushed = c.in_ok-push.ensures.items
    ∙ ap (λ (x : List ℕ). at.replies.items ++ x ∷ []) (c.in_ok-reply.ensures
    ∙ ap₂ (λ (x y : List ℕ). reply_frame (asker_reply asker x y)) c.as_slice.ensures c.as_slice-in-Some.ensures) in
    frames-push at.left.now behind asker first second (into_iter_items at.rest) rest
    at.replies.items c.push.new.self.items
    (frames_with c.args.askers.now (into_iter_items c.into_iter-rest.result))
    c.in-Some.ensures.cases.0 two pushed at.invariant
