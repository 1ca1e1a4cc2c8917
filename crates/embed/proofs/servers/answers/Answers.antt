-- One more server has replied to its own frame.
use Rattle.std.proofs.Common.{◌∙◌, ◌<◌, ◌∷◌, [], ◌++◌, ℕ, List, ap, arith, length, map, sym, subst, take}
use Rattle.std.proofs.lemmas.List.{take_all}
use Rattle.tk_replica.specs.Replica.{StandsFor}
use Rattle.tk_replica.specs.Replies.{reply_bytes}
use Rattle.embed.proofs.ServerLaws.{map-next}
use Rattle.embed.proofs.servers.answers.Goals as goal
use Rattle.tk_lists.proofs.Offers.{length-next}

pub loop-i-preserved : goal.loop-i-preserved
loop-i-preserved c =
    let so_far = c.loop-i.invariant in
    let pushed = c.in_ok-push.ensures.items in
    let frames = c.args.frames.now in
    let i = c.loop-i.i in
    let frame = c.index-frames-i.result in
    let server = c.index-servers-i.result in
    let within : i < length frames = omega (arith, c.loop-i-test.true, c.requires) in
    record {
      counted =
          length-next c.loop-i.replies.items c.push.new.self.items c.in_ok-serve.field-0 i pushed
          so_far.counted;
      replies = λ shape E are.
          let stands =
          subst (StandsFor shape E) (sym c.index-servers-i.is)
          (are.each i server c.loop-i-test.true)
          in
          let said =
          c.in_ok-serve.ensures.reply shape E stands
          ∙ ap (reply_bytes shape E) (c.as_slice.ensures ∙ c.index-frames-i.is)
          in
          pushed
          ∙ ap (λ (rs : List (List ℕ)). rs ++ c.in_ok-serve.field-0 ∷ [])
          (so_far.replies shape E are)
          ∙ ap (λ (r : List ℕ). map (reply_bytes shape E) (take i frames) ++ r ∷ []) said
          ∙ sym (map-next (reply_bytes shape E) frames i frame within);
    }

pub returns-clause-replies : goal.returns-clause-replies
returns-clause-replies c = λ shape E are.
    let frames = c.args.frames.now in
    c.loop-i.invariant.replies shape E are
    ∙ ap (map (reply_bytes shape E))
    (take_all c.loop-i.i frames (omega (arith, c.loop-i-test.false, c.requires)))
