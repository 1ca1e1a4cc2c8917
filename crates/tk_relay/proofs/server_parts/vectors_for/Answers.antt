-- One more part's vectors.
use Rattle.std.proofs.Common.{◌∙◌, ◌∷◌, [], ◌++◌, ℕ, List, ap, ap₂, sym, subst, arith, length, map}
use Rattle.std.specs.List.{zip}
use Rattle.std.proofs.lemmas.List.{take_all}
use Rattle.tk_shape.specs.Lengths.{vector_len}
use Rattle.tk_kernel.specs.Pieces.{AllSized}
use Rattle.tk_kernel.proofs.Offers.{AllSized-append}
use Rattle.tk_relay.specs.Halves.{Halves}
use Rattle.tk_relay.specs.Serving.{first_asked, second_asked}
use Rattle.tk_relay.proofs.Aside.{asked-counted, place-server, place-sized, place-shape}
use Rattle.tk_relay.proofs.ServedParts.{made-more}
use Rattle.tk_relay.proofs.server_parts.vectors_for.Goals as goal

pub bounds-pads-i : goal.bounds-pads-i
bounds-pads-i c = omega (arith, c.loop-i-test.true, c.requires.1.counted)

pub vectors_of-requires-clause-server : goal.vectors_of-requires-clause-server
vectors_of-requires-clause-server c =
    place-server c.requires.1 c.loop-i.i c.index-pads-i.result c.loop-i-test.true c.index-pads-i.is

pub vectors_of-requires-clause-sized : goal.vectors_of-requires-clause-sized
vectors_of-requires-clause-sized c =
    place-sized c.requires.1 c.loop-i.i c.index-pads-i.result c.index-parts-i.result
    c.loop-i-test.true c.index-pads-i.is c.index-parts-i.is

pub loop-i-preserved : goal.loop-i-preserved
loop-i-preserved c =
    let i = c.loop-i.i in
    let server = c.args.server in
    let p = c.index-pads-i.result in
    let q = c.index-parts-i.result in
    let low = c.loop-i-test.true in
    let so_far = c.loop-i.invariant in
    let both = c.both.view_is ∙ c.in_ok-both.ensures.vectors in
    let sized = c.in_ok-both.ensures.sized in
    record {
      firsts_sized = λ shape are.
          let n = vector_len shape in
          subst (AllSized n) (sym c.in_ok-push.ensures.items)
          (AllSized-append n c.loop-i.vectors.items (c.from_vec.result ∷ [])
          (so_far.firsts_sized shape are) (
            ap length c.from_vec.ensures ∙ ap (λ (x : Halves). length x.first) c.both.view_is
                ∙ sized.first ∙ ap vector_len (place-shape are i p low c.index-pads-i.is),
            tt,
          ));
      seconds_sized = λ shape are.
          let n = vector_len shape in
          subst (AllSized n) (sym c.in_ok-push-2.ensures.items)
          (AllSized-append n c.loop-i.others.items (c.from_vec-in-loop-i.result ∷ [])
          (so_far.seconds_sized shape are) (
            ap length c.from_vec-in-loop-i.ensures ∙ ap (λ (x : Halves). length x.second) c.both.view_is
                ∙ sized.second ∙ ap vector_len (place-shape are i p low c.index-pads-i.is),
            tt,
          ));
      firsts =
          made-more c.requires.1 (first_asked server) i p q c.loop-i.vectors.items
          c.push.new.self.items c.from_vec.result low c.index-pads-i.is c.index-parts-i.is
          (c.from_vec.ensures ∙ ap (λ (x : Halves). x.first) both)
          c.in_ok-push.ensures.items so_far.firsts;
      seconds =
          made-more c.requires.1 (second_asked server) i p q c.loop-i.others.items
          c.push-in-loop-i.new.self.items c.from_vec-in-loop-i.result low c.index-pads-i.is
          c.index-parts-i.is (c.from_vec-in-loop-i.ensures ∙ ap (λ (x : Halves). x.second) both)
          c.in_ok-push-2.ensures.items so_far.seconds;
    }

pub returns-clause-sized : goal.returns-clause-sized
returns-clause-sized c = λ shape are.
    let n = vector_len shape in
    let so_far = c.loop-i.invariant in
    subst (AllSized n) (sym c.in_ok-append.ensures.items)
    (AllSized-append n c.loop-i.vectors.items c.loop-i.others.items (so_far.firsts_sized shape are)
    (so_far.seconds_sized shape are))

pub returns-clause-vectors : goal.returns-clause-vectors
returns-clause-vectors c =
    let asked = zip c.args.pads.now c.args.parts.now in
    let server = c.args.server in
    let so_far = c.loop-i.invariant in
    let all = take_all c.loop-i.i asked
    (omega (arith, c.loop-i-test.false, asked-counted c.requires.1))
    in
    c.in_ok-append.ensures.items
    ∙ ap₂ (λ (xs ys : List (List ℕ)). xs ++ ys)
    (so_far.firsts ∙ ap (map (first_asked server)) all)
    (so_far.seconds ∙ ap (map (second_asked server)) all)
