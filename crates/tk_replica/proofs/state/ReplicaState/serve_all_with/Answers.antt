-- Row after row is answered over the epoch that it names.
use Rattle.std.proofs.Common.{◌≡◌, ◌∙◌, ap, sym, subst, List, ◌++◌, ℕ, map}
use Rattle.std.specs.List.{AllByRecursion}
use Rattle.tk_frames.specs.declared.read_frame.ReadFrame.{ReadFrame}
use Rattle.tk_replica.specs.Replies.{reply_bytes, IsServed}
use Rattle.tk_replica.proofs.Several.{frame_for, asked-served, asked-replies, served-in_range}
use Rattle.tk_replica.proofs.Several.{row-served, all-front, all-behind}
use Rattle.tk_replica.proofs.state.ReplicaState.serve_all_with.Goals as goal

pub rows-init : goal.rows-init
rows-init c =
    let s = c.args.self.now in
    let frames = c.args.frames.now in
    let reads = c.in_ok-read_all.field-0.items in
    let asked = c.in_ok-read_all.ensures.asked in
    let rest = sym c.from-rest.ensures.0 in
    record {
      served = subst (AllByRecursion (IsServed s)) rest (asked-served s frames reads asked);
      replies = λ shape E is.
          ap (λ (xs : List (List ℕ)). xs ++ map (frame_for shape E) c.from-rest.result.items)
          c.new-replies.ensures.items
          ∙ subst (λ (rs : List ReadFrame).
          map (frame_for shape E) rs ≡ map (reply_bytes shape E) frames)
          rest (asked-replies shape E s frames reads is asked);
    }

pub reply_all-requires : goal.reply_all-requires
reply_all-requires c =
    let s = c.args.self.now in
    let row = c.in_ok-row.row.items in
    let behind = c.in_a_row.new.rest.items in
    let split = c.in-Some.ensures.items ∙ c.in_ok-row.ensures.taken in
    served-in_range s c.epoch.result.now.shape row c.epoch.ensures.same
    (all-front (IsServed s) row behind
    (subst (AllByRecursion (IsServed s)) split c.rows.invariant.served))

pub rows-preserved : goal.rows-preserved
rows-preserved c =
    let s = c.args.self.now in
    let row = c.in_ok-row.row.items in
    let behind = c.in_a_row.new.rest.items in
    let rest = c.rows.rest.items in
    let split : rest ≡ row ++ behind = c.in-Some.ensures.items ∙ c.in_ok-row.ensures.taken in
    record {
      served =
          all-behind (IsServed s) row behind
          (subst (AllByRecursion (IsServed s)) split c.rows.invariant.served);
      replies = λ shape E is.
          row-served shape E c.in-Some.first.epoch c.epoch.result.now row behind rest
          c.rows.replies.items c.reply_all.new.out.items
          (map (reply_bytes shape E) c.args.frames.now)
          (c.epoch.ensures.stands shape E is) c.in_ok-row.ensures.same split
          c.in_ok-reply_all.ensures (c.rows.invariant.replies shape E is);
    }
