-- One more reply.
use Rattle.std.proofs.Common.{◌∙◌, ap, sym, subst, arith, length, map}
use Rattle.std.specs.List.{zip, AllByRecursion}
use Rattle.std.proofs.lemmas.List.{take_all}
use Rattle.tk_shape.specs.declared.shape.Shape.{Shape}
use Rattle.tk_shape.specs.Lengths.{width}
use Rattle.tk_relay.specs.declared.part.Part.{Part}
use Rattle.tk_relay.specs.Halves.{HasHalves}
use Rattle.tk_relay.specs.Parts.{halves_of}
use Rattle.tk_relay.specs.Serving.{first_asked, second_asked, reply_to_asked}
use Rattle.tk_relay.proofs.Aside.{asked-counted, place-server, place-shape}
use Rattle.tk_frames.proofs.Offers.{each-push}
use Rattle.tk_relay.proofs.ServedParts.{first-counted, second-counted, first-at, second-at, sum-long, reply-at, made-more}
use Rattle.tk_relay.proofs.server_parts.replies_with.Goals as goal

pub bounds-pads-i : goal.bounds-pads-i
bounds-pads-i c = omega (arith, c.loop-i-test.true, c.requires.2.counted)

pub bounds-first-i : goal.bounds-first-i
bounds-first-i c = omega (arith, c.loop-i-test.true, first-counted c.requires.2 c.requires.3)

pub bounds-second-i : goal.bounds-second-i
bounds-second-i c = omega (arith, c.loop-i-test.true, second-counted c.requires.2 c.requires.3)

pub reply_with-requires-clause-server : goal.reply_with-requires-clause-server
reply_with-requires-clause-server c =
    place-server c.requires.2 c.loop-i.i c.index-pads-i.result c.loop-i-test.true c.index-pads-i.is

pub reply_with-requires-clause-first_len : goal.reply_with-requires-clause-first_len
reply_with-requires-clause-first_len c =
    let shape = c.requires.0 in
    let blocks = c.requires.1 in
    let i = c.loop-i.i in
    let p = c.index-pads-i.result in
    let q = c.index-parts-i.result in
    let low = c.loop-i-test.true in
    ap length (c.as_slice.ensures ∙ c.index-first-i.is
    ∙ first-at c.requires.2 c.requires.3 i p q c.index-first-i.result low c.index-pads-i.is
    c.index-parts-i.is)
    ∙ sum-long shape blocks (first_asked c.args.server (p, q)) c.requires.3.sized
    ∙ ap width (sym (place-shape c.requires.2 i p low c.index-pads-i.is))

pub reply_with-requires-clause-second_len : goal.reply_with-requires-clause-second_len
reply_with-requires-clause-second_len c =
    let shape = c.requires.0 in
    let blocks = c.requires.1 in
    let i = c.loop-i.i in
    let p = c.index-pads-i.result in
    let q = c.index-parts-i.result in
    let low = c.loop-i-test.true in
    ap length (c.as_slice-in-loop-i.ensures ∙ c.index-second-i.is
    ∙ second-at c.requires.2 c.requires.3 i p q c.index-second-i.result low c.index-pads-i.is
    c.index-parts-i.is)
    ∙ sum-long shape blocks (second_asked c.args.server (p, q)) c.requires.3.sized
    ∙ ap width (sym (place-shape c.requires.2 i p low c.index-pads-i.is))

pub loop-i-preserved : goal.loop-i-preserved
loop-i-preserved c =
    let i = c.loop-i.i in
    let server = c.args.server in
    let p = c.index-pads-i.result in
    let q = c.index-parts-i.result in
    let low = c.loop-i-test.true in
    let reply = c.in_ok-reply.reply in
    let so_far = c.loop-i.invariant in
    record {
      sized = λ shape are.
          let IsSized = λ (x : Part). HasHalves (width shape) (halves_of x) in
          subst (AllByRecursion IsSized) (sym c.in_ok-push.ensures.items)
          (each-push IsSized c.loop-i.replies.items reply (so_far.sized shape are)
          (subst (λ (s : Shape). HasHalves (width s) (halves_of reply))
          (place-shape are i p low c.index-pads-i.is) c.in_ok-reply.ensures.sized));
      served = λ shape blocks are sums.
          made-more are (reply_to_asked shape blocks server) i p q c.loop-i.replies.items
          c.push.new.self.items reply low c.index-pads-i.is c.index-parts-i.is
          (reply-at are sums p q reply c.as_slice.result.now c.as_slice-in-loop-i.result.now
          (c.as_slice.ensures ∙ c.index-first-i.is
          ∙ first-at are sums i p q c.index-first-i.result low c.index-pads-i.is c.index-parts-i.is)
          (c.as_slice-in-loop-i.ensures ∙ c.index-second-i.is
          ∙ second-at are sums i p q c.index-second-i.result low c.index-pads-i.is
          c.index-parts-i.is)
          c.in_ok-reply.ensures.reply)
          c.in_ok-push.ensures.items (so_far.served shape blocks are sums);
    }

pub returns-clause-sized : goal.returns-clause-sized
returns-clause-sized c = λ shape are. c.loop-i.invariant.sized shape are

pub returns-clause-served : goal.returns-clause-served
returns-clause-served c = λ shape blocks are sums.
    let asked = zip c.args.pads.now c.args.parts.now in
    c.loop-i.invariant.served shape blocks are sums
    ∙ ap (map (reply_to_asked shape blocks c.args.server))
    (take_all c.loop-i.i asked (omega (arith, c.loop-i-test.false, asked-counted are)))
