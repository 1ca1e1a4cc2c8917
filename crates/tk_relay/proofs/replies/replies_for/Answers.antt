-- The frames are those of the first server's reply and of as many with zeros as there are others.
use Rattle.std.proofs.Common.{◌≡◌, ◌∙◌, ◌+◌, ◌-◌, ◌∷◌, ◌++◌, [], List, ℕ, replicate, ap, ap₂, sym, arith}
use Rattle.std.proofs.lemmas.List.{replicate_more}
use Rattle.tk_shape.specs.Lengths.{width}
use Rattle.tk_frames.specs.Spelling.{reply_frame}
use Rattle.tk_relay.specs.Halves.{Halves}
use Rattle.tk_relay.specs.Replies.{reply_with, unmasked, zero_halves, replies_from}
use Rattle.tk_relay.proofs.Lists.{map-replicate}
use Rattle.tk_relay.proofs.replies.replies_for.Goals as goal

pub loop-preserved : goal.loop-preserved
loop-preserved c =
    let part = c.args.joined.now in
    let zero = reply_frame (reply_with part (zero_halves (width c.args.shape.now))) in
    let first = reply_frame
    (reply_with part (unmasked c.args.shape.now c.args.pads.now.pads part))
    in
    let n = c.loop.counter in
    let next : n - 1 + 1 ≡ n + 1 - 1 = omega arith in
    let pushed : c.in_ok-frame_with-2.field-0 ≡ zero =
    c.in_ok-frame_with-2.ensures
    ∙ ap (λ (x : Halves). reply_frame (reply_with part x))
    (c.in_ok-zeros.ensures ∙ ap zero_halves c.width.ensures)
    in
    c.in_ok-push-2.ensures.items
    ∙ ap₂ (λ (xs : List (List ℕ)) (x : List ℕ). xs ++ x ∷ []) c.loop.invariant pushed
    ∙ ap (λ (xs : List (List ℕ)). first ∷ xs) (replicate_more (n - 1) zero)
    ∙ ap (λ k. first ∷ replicate k zero) next

pub returns-clause-ok : goal.returns-clause-ok
unfolding replies_from
returns-clause-ok c =
    let shape = c.args.shape.now in
    let part = c.args.joined.now in
    let blank = reply_with part (zero_halves (width shape)) in
    let first = reply_frame (reply_with part (unmasked shape c.args.pads.now.pads part)) in
    let several = shape.in_range.servers_low in
    let all : c.loop.counter - 1 ≡ shape.servers - 1 = omega (arith, several) in
    c.in_ok-append.ensures.items
    ∙ ap (λ (xs : List (List ℕ)). c.args.out.now.items ++ xs)
    (c.loop.invariant
    ∙ ap (λ k. first ∷ replicate k (reply_frame blank)) all
    ∙ ap (λ (xs : List (List ℕ)). first ∷ xs)
    (sym (map-replicate reply_frame (shape.servers - 1) blank)))
