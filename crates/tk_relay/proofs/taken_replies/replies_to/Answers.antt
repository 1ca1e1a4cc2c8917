-- The replies of all servers may be gathered, and the one reply has the size of sums.
use Rattle.std.proofs.Common.{◌∙◌, ◌++◌, List, ℕ, ap, ap₂, sym, subst, arith, map}
use Rattle.tk_shape.specs.Lengths.{width}
use Rattle.tk_frames.specs.Spelling.{reply_frame}
use Rattle.tk_relay.specs.declared.part.Part.{Part}
use Rattle.tk_relay.specs.Halves.{HasHalves}
use Rattle.tk_relay.specs.Parts.{halves_of}
use Rattle.tk_relay.specs.Replies.{replies_from}
use Rattle.tk_relay.specs.Serving.{AreOfOneRead, gathered_part}
use Rattle.tk_relay.proofs.Gathered.{sized-alike, gathered-as}
use Rattle.tk_relay.proofs.taken_replies.replies_to.Goals as goal

pub gather-requires-clause-alike : goal.gather-requires-clause-alike
gather-requires-clause-alike c =
    subst AreOfOneRead (sym c.as_slice.ensures.value)
    (sized-alike (width c.args.shape.now) c.args.read.now.replies.items c.requires.sized)

pub replies_for-requires-clause-sized : goal.replies_for-requires-clause-sized
replies_for-requires-clause-sized c =
    let n = width c.args.shape.now in
    let parts = c.args.read.now.replies.items in
    let several = c.args.shape.now.in_range.servers_low in
    subst (λ (p : Part). HasHalves n (halves_of p))
    (sym (c.in-Ok.ensures.gathered ∙ ap gathered_part c.as_slice.ensures.value))
    (gathered-as n parts (omega (arith, c.requires.counted, several)) c.requires.sized)

pub returns : goal.returns
returns c =
    let shape = c.args.shape.now in
    let pads = c.args.pads.now.pads in
    c.in_ok-replies_for.ensures.ok
    ∙ ap₂ (λ (xs : List (List ℕ)) (p : Part). xs ++ map reply_frame (replies_from shape pads p))
    c.new-replies.ensures.items (c.in-Ok.ensures.gathered ∙ ap gathered_part c.as_slice.ensures.value)
