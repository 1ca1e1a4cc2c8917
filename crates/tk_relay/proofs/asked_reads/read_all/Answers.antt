-- One more read.
use Rattle.std.proofs.Common.{◌∙◌, List, ℕ, ap, arith, length}
use Rattle.std.specs.Prelude.{slice_index_or}
use Rattle.tk_frames.specs.Spelling.{read_frame}
use Rattle.std.proofs.lemmas.List.{length-map, take_all}
use Rattle.tk_relay.proofs.Sent.{read-next}
use Rattle.tk_relay.proofs.asked_reads.read_all.Goals as goal

pub loop-bytes-preserved : goal.loop-bytes-preserved
loop-bytes-preserved c reads in_range spelled =
    let i = c.loop-bytes.bytes-index in
    read-next c.args.shape.now reads i c.bytes-item.result c.in-Ok.frame c.loop-bytes.frames.items
    c.push.new.self.items in_range
    (c.bytes-item.is ∙ ap (λ (xs : List (List ℕ)). slice_index_or xs i c.bytes-item.result) spelled)
    (omega (arith, c.loop-bytes-test.true, ap length spelled))
    (λ r r_in is. c.in-Ok.ensures.only r r_in (c.as_slice.ensures ∙ is))
    c.in_ok-push.ensures.items (c.loop-bytes.invariant reads in_range spelled)

pub returns : goal.returns
returns c reads in_range spelled =
    c.loop-bytes.invariant reads in_range spelled
    ∙ take_all c.loop-bytes.bytes-index reads
    (omega (arith, c.loop-bytes-test.false, ap length spelled, length-map reads read_frame))
