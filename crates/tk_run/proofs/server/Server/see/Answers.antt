-- A read and its reply are seen after the earlier ones.
use Rattle.std.proofs.Common.{◌∙◌, ◌<◌, ◌++◌, List, ℕ, ap, arith, length}
use Rattle.tk_run.proofs.ServerLaws.{pairs-seen}
use Rattle.tk_run.proofs.server.Server.see.Goals as goal

pub loop-i-preserved : goal.loop-i-preserved
loop-i-preserved c =
    let frames = c.args.frames.now in
    let replies = c.args.replies.now in
    let i = c.loop-i.i in
    let so_far = c.loop-i.invariant in
    let old = c.loop-i.self.seen.items in
    let mid = c.extend_from_slice.new.self.items in
    let low : i < length frames = omega (arith, c.loop-i-test.true) in
    record {
      state = so_far.state;
      displaced = so_far.displaced;
      seen =
          pairs-seen frames replies i c.index-frames-i.result c.index-replies-i.result
          c.args.self.now.seen.items old mid c.extend_from_slice-in-loop-i.new.self.items
          low (omega (arith, low, c.requires)) c.index-frames-i.is c.index-replies-i.is so_far.seen
          (c.in_ok-extend_from_slice.ensures.items
          ∙ ap (λ (xs : List ℕ). old ++ xs) c.as_slice.ensures)
          (c.in_ok-extend_from_slice-2.ensures.items
          ∙ ap (λ (xs : List ℕ). mid ++ xs) c.as_slice-in-loop-i.ensures);
    }
