-- Each server replies after those before it.
use Rattle.std.proofs.Common.{◌≡◌, ◌∙◌, ◌≤◌, ◌-◌, ◌++◌, ◌∷◌, [], ℕ, List, map, ap, ap₂, sym, subst, arith}
use Rattle.std.specs.List.{range_with_len, AllByRecursion}
use Rattle.std.proofs.lemmas.List.{map-append}
use Rattle.tk_shape.specs.declared.shape.Shape.{Shape}
use Rattle.tk_frames.specs.Order.{Record}
use Rattle.tk_frames.specs.declared.reply_frame.ReplyFrame.{ReplyFrame}
use Rattle.tk_frames.specs.Ranges.{IsReply}
use Rattle.tk_frames.specs.Spelling.{reply_frame}
use Rattle.tk_frames.proofs.Offers.{each-push}
use Rattle.tk_hostile.specs.Given.{sums_at}
use Rattle.tk_hostile.specs.declared.sums.Sums.{Sums}
use Rattle.tk_hostile.specs.Choice.{reply_with, reply_by, replies_by}
use Rattle.tk_hostile.proofs.ReplyingLaws.{reply-in_range, servers-more}
use Rattle.tk_hostile.proofs.wrong_servers.Servers.replies.Goals as goal

pub loop-server-preserved : goal.loop-server-preserved
loop-server-preserved c =
    let e = c.args.self.now in
    let given = e.replies.now in
    let asked = c.args.asked.now in
    let by : List Record → ℕ → ReplyFrame =
    λ R. reply_by given.shape e.hidden (sums_at given) R asked
    in
    let so_far : List Record → List ReplyFrame =
    λ R. map (by R) (range_with_len 1 (c.loop-server.server - 1))
    in
    let server = c.loop-server.server in
    let low : 1 ≤ server = omega arith in
    let sums = c.in_ok-sums.sums in
    record {
      replies = λ R is.
          c.in_ok-push.ensures.items
          ∙ ap₂ (λ (xs : List (List ℕ)) (x : List ℕ). xs ++ x ∷ [])
          (c.loop-server.invariant.replies R is)
          (c.in_ok-frame_of.ensures
          ∙ ap (λ (x : Sums). reply_frame (reply_with asked x)) (c.in_ok-sums.ensures.sums R is))
          ∙ sym (map-append reply_frame (so_far R) (by R server ∷ []))
          ∙ ap (map reply_frame) (sym (servers-more (by R) server low));
      in_range = λ R is.
          subst (AllByRecursion (IsReply given.shape)) (sym (servers-more (by R) server low))
          (each-push (IsReply given.shape) (so_far R) (by R server)
          (c.loop-server.invariant.in_range R is)
          (subst (λ (x : Sums). IsReply given.shape (reply_with asked x))
          (c.in_ok-sums.ensures.sums R is)
          (reply-in_range given.shape asked sums c.requires.asked c.in_ok-sums.ensures.sized)));
    }

pub returns : goal.returns
unfolding replies_by
returns c =
    let e = c.args.self.now in
    let given = e.replies.now in
    let by : List Record → ℕ → ReplyFrame =
    λ R. reply_by given.shape e.hidden (sums_at given) R c.args.asked.now
    in
    let servers = ap (λ (shape : Shape). shape.servers) c.shape.ensures in
    let all : c.loop-server.server - 1 ≡ given.shape.servers = omega (arith, servers) in
    record {
      replies = λ R is.
          c.loop-server.invariant.replies R is
          ∙ ap (λ n. map reply_frame (map (by R) (range_with_len 1 n))) all;
      in_range = λ R is.
          subst (λ (n : ℕ). AllByRecursion (IsReply given.shape) (map (by R) (range_with_len 1 n))) all
          (c.loop-server.invariant.in_range R is);
    }
