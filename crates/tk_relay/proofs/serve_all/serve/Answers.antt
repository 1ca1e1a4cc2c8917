-- What server 1 passes on are parts of the shape, and each read gets the reply to its part.
use Rattle.std.proofs.Common.{◌∙◌, ap, sym, subst, length}
use Rattle.std.specs.Prelude.{All}
use Rattle.std.proofs.lemmas.List.{length-map}
use Rattle.tk_frames.specs.Order.{before}
use Rattle.tk_table.specs.Table.{layout, blocks_of}
use Rattle.tk_relay.specs.Reads.{part_of}
use Rattle.tk_relay.specs.Serving.{IsAsking, served_parts}
use Rattle.tk_relay.proofs.AnsweredReads.{parts-there, parts-asking, served-by, replied-whole}
use Rattle.tk_relay.proofs.serve_all.serve.Goals as goal

pub passed_on-requires-clause-parts : goal.passed_on-requires-clause-parts
passed_on-requires-clause-parts c =
    parts-there c.args.set.now.shape c.args.server c.args.reads.now c.requires.high c.requires.whole

pub serve_parts-requires-clause-counted : goal.serve_parts-requires-clause-counted
serve_parts-requires-clause-counted c =
    c.requires.counted
    ∙ sym (ap length (c.as_slice.ensures.value ∙ c.in_ok-parts.ensures)
    ∙ length-map c.args.reads.now (λ r. part_of r c.args.server))

pub serve_parts-requires-clause-sized : goal.serve_parts-requires-clause-sized
serve_parts-requires-clause-sized c =
    subst (All (IsAsking c.args.set.now.shape))
    (sym (c.as_slice.ensures.value ∙ c.in_ok-parts.ensures))
    (parts-asking c.args.set.now.shape c.args.server c.args.reads.now c.requires.low c.requires.high
    c.requires.whole)

pub returns-clause-whole : goal.returns-clause-whole
returns-clause-whole c = replied-whole c.in_ok-take_replies.ensures c.requires.whole

pub returns-clause-served : goal.returns-clause-served
returns-clause-served c = λ shape E stands.
    let blocks = blocks_of (layout shape (before E c.args.set.now.number)) in
    served-by shape blocks c.args.server c.args.pads.now c.args.reads.now c.take_replies.new.reads
    c.in-Ok.replies.items c.requires.counted
    (c.in-Ok.ensures.served shape E stands
    ∙ ap (served_parts shape blocks c.args.server c.args.pads.now)
    (c.as_slice.ensures.value ∙ c.in_ok-parts.ensures))
    c.in_ok-take_replies.ensures
