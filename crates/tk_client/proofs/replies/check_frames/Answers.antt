-- One reply further, or the first that can't be read.
use Rattle.std.proofs.Common.{◌≡◌, ◌∙◌, ap, sym, subst, rules, add-one, ℕ, ◌+◌, List, length, take, drop, Err}
use Rattle.tk_client.specs.Replies.{unread, first_unread, IsRefusedForOrMemory, AreWholeReplies}
use Rattle.tk_shape.specs.Lengths.{reply_len}
use Rattle.tk_client.proofs.RepliesLaws.{first_unread-here, refused-first, none-first, whole-more}
use Rattle.tk_client.proofs.replies.check_frames.Goals as goal

pub returns-in_err-check_frame-clause-refused : goal.returns-in_err-check_frame-clause-refused
returns-in_err-check_frame-clause-refused c =
    let shape = c.args.shape.now in
    let replies = c.args.replies.now in
    let i = c.loop-i.i in
    let reply = c.index-replies-i.result in
    let fault = c.in_err-check_frame.field-0.0 in
    let out : c.from_residual.result ≡ Err fault = search rules in
    let here =
    first_unread-here shape replies i (i + 1) reply c.loop-i-test.true c.index-replies-i.is
    in
    let refused : IsRefusedForOrMemory (unread shape (i + 1) reply) fault =
    subst (λ (bytes : List ℕ). IsRefusedForOrMemory (unread shape (i + 1) bytes) fault)
    c.as_slice.ensures c.in_err-check_frame.ensures.refused
    in
    rw out
    (refused-first (unread shape (i + 1) reply) _ (first_unread shape 1 replies) fault
    (c.loop-i.invariant.left ∙ here) refused)

pub loop-i-preserved : goal.loop-i-preserved
loop-i-preserved c =
    let shape = c.args.shape.now in
    let replies = c.args.replies.now in
    let i = c.loop-i.i in
    let reply = c.index-replies-i.result in
    let so_far = c.loop-i.invariant in
    let here =
    first_unread-here shape replies i (i + 1) reply c.loop-i-test.true c.index-replies-i.is
    in
    let none =
    ap (unread shape (i + 1)) (sym c.as_slice.ensures) ∙ c.in_ok-check_frame.ensures.kept
    in
    let whole : length reply ≡ reply_len shape =
    ap length (sym c.as_slice.ensures) ∙ c.in_ok-check_frame.ensures.whole
    in
    record {
      whole =
          subst (λ n. AreWholeReplies shape (take n replies)) (sym (add-one i))
          (whole-more shape replies i reply c.loop-i-test.true c.index-replies-i.is so_far.whole whole);
      left =
          none-first (unread shape (i + 1) reply) _ (first_unread shape 1 replies)
          (so_far.left ∙ here) none
          ∙ ap (λ n. first_unread shape (i + 1 + 1) (drop n replies)) (sym (add-one i));
    }
