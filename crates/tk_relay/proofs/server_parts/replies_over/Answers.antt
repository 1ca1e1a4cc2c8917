-- The sums of all vectors are cut in two, for the first buckets and for the second.
use Rattle.std.proofs.Common.{◌∙◌, ap, subst, arith, length, map}
use Rattle.std.specs.List.{zip}
use Rattle.std.proofs.lemmas.List.{length-map}
use Rattle.tk_kernel.specs.Chosen.{chosen_sum}
use Rattle.tk_kernel.specs.Pieces.{AllSized}
use Rattle.tk_relay.specs.Serving.{first_asked, second_asked}
use Rattle.tk_relay.proofs.Aside.{asked-counted}
use Rattle.tk_relay.proofs.ServedParts.{bits-each, two-each, sums-cut}
use Rattle.tk_relay.proofs.server_parts.replies_over.Goals as goal

pub vectors_for-requires : goal.vectors_for-requires
vectors_for-requires c = (c.requires.0, c.requires.2)

pub sums_of_all-requires : goal.sums_of_all-requires
sums_of_all-requires c =
    bits-each c.requires.0 (length c.args.blocks.now.blocks) c.in_ok-vectors.vectors.items
    (c.in_ok-vectors.ensures.sized c.requires.0 c.requires.2) c.requires.1.counted

pub split_at-requires : goal.split_at-requires
split_at-requires c =
    let blocks = c.args.blocks.now in
    let asked = zip c.args.pads.now c.args.parts.now in
    let vectors = c.in_ok-vectors.vectors.items in
    let counted =
    two-each (first_asked c.args.server) (second_asked c.args.server) asked vectors
    c.in_ok-vectors.ensures.vectors
    in
    let sums = ap length c.in_ok-sums.ensures
    ∙ length-map vectors (chosen_sum blocks.width blocks.blocks)
    in
    omega (arith, counted, sums, asked-counted c.requires.2, ap length c.as_slice.ensures.value)

pub replies_with-requires : goal.replies_with-requires
replies_with-requires c =
    let blocks = c.args.blocks.now.blocks in
    let wide = c.requires.1.wide in (
      c.requires.0,
      blocks,
      c.requires.2,
      sums-cut {shape = c.requires.0} {blocks = blocks}
          (subst (λ n. AllSized n blocks) wide c.each_wide.ensures) c.in_ok-vectors.ensures.vectors
          (c.as_slice.ensures.value ∙ c.in_ok-sums.ensures
          ∙ ap (λ n. map (chosen_sum n blocks) c.in_ok-vectors.vectors.items) wide)
          (asked-counted c.requires.2) c.split_at.ensures.front c.split_at.ensures.back,
    )

pub returns-clause-sized : goal.returns-clause-sized
returns-clause-sized c = λ shape had are. c.replies_with.ensures.sized shape are

pub returns-clause-served : goal.returns-clause-served
returns-clause-served c = λ shape had are.
    let blocks = c.args.blocks.now.blocks in
    c.replies_with.ensures.served shape blocks are
    (sums-cut {shape = shape} {blocks = blocks}
    (subst (λ n. AllSized n blocks) had.wide c.each_wide.ensures) c.in_ok-vectors.ensures.vectors
    (c.as_slice.ensures.value ∙ c.in_ok-sums.ensures
    ∙ ap (λ n. map (chosen_sum n blocks) c.in_ok-vectors.vectors.items) had.wide)
    (asked-counted are) c.split_at.ensures.front c.split_at.ensures.back)
