-- Each reply has as many bytes as the sums, and adds its own.
use Rattle.std.proofs.Common.{◌∙◌, ap, List, ℕ, map, arith}
use Rattle.std.proofs.lemmas.List.{take_all}
use Rattle.tk_shape.specs.Lengths.{width}
use Rattle.tk_kernel.specs.Xor.{xor_bytes, xor_all}
use Rattle.tk_frames.specs.declared.reply_frame.ReplyFrame.{ReplyFrame}
use Rattle.tk_frames.specs.Fields.{reply_in}
use Rattle.tk_client.proofs.JoiningLaws.{sum_more, firsts_sized, seconds_sized, parts_in}
use Rattle.tk_client.proofs.join.join.Goals as goal

pub loop-reply-preserved : goal.loop-reply-preserved
loop-reply-preserved c =
    let shape = c.args.shape.now in
    let replies = c.args.replies.now in
    let place = c.loop-reply.reply-index in
    let reply = c.reply-item in
    let so_far = c.loop-reply.invariant in
    let one = λ (b : List ℕ). (reply_in shape b).first in
    let other = λ (b : List ℕ). (reply_in shape b).second in
    record {
      first =
          c.xor_into.ensures
          ∙ ap (xor_bytes c.loop-reply.first) (c.sums_of.ensures.first ∙ ap one c.as_slice.ensures)
          ∙ sum_more (width shape) one replies place reply.result c.loop-reply.first
          (firsts_sized shape replies c.requires.whole) c.loop-reply-test.true reply.is so_far.first;
      second =
          c.xor_into-in-loop-reply.ensures
          ∙ ap (xor_bytes c.loop-reply.second) (c.sums_of.ensures.second ∙ ap other c.as_slice.ensures)
          ∙ sum_more (width shape) other replies place reply.result c.loop-reply.second
          (seconds_sized shape replies c.requires.whole) c.loop-reply-test.true reply.is so_far.second;
    }

pub returns-clause-first : goal.returns-clause-first
returns-clause-first c =
    let shape = c.args.shape.now in
    let replies = c.args.replies.now in
    c.loop-reply.invariant.first
    ∙ ap (λ (bs : List (List ℕ)). xor_all (width shape) (map (λ (b : List ℕ). (reply_in shape b).first) bs))
    (take_all c.loop-reply.reply-index replies (omega (arith, c.loop-reply-test.false)))
    ∙ ap (xor_all (width shape)) (parts_in shape (λ (r : ReplyFrame). r.first) replies)

pub returns-clause-second : goal.returns-clause-second
returns-clause-second c =
    let shape = c.args.shape.now in
    let replies = c.args.replies.now in
    c.loop-reply.invariant.second
    ∙ ap (λ (bs : List (List ℕ)). xor_all (width shape) (map (λ (b : List ℕ). (reply_in shape b).second) bs))
    (take_all c.loop-reply.reply-index replies (omega (arith, c.loop-reply-test.false)))
    ∙ ap (xor_all (width shape)) (parts_in shape (λ (r : ReplyFrame). r.second) replies)
