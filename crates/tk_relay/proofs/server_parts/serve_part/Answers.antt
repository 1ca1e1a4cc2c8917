-- There is one part, and one reply.
use Rattle.std.proofs.Common.{◌≡◌, ◌∙◌, ap, sym}
use Rattle.std.specs.Vec.Iter.{into_iter_items}
use Rattle.tk_shape.specs.Lengths.{width}
use Rattle.tk_frames.specs.Order.{before}
use Rattle.tk_table.specs.Table.{layout, blocks_of}
use Rattle.tk_relay.specs.declared.part.Part.{Part}
use Rattle.tk_relay.specs.Halves.{HasHalves}
use Rattle.tk_relay.specs.Parts.{halves_of}
use Rattle.tk_relay.specs.Pads.{Padding}
use Rattle.tk_relay.specs.Refusals.{first_other_epoch}
use Rattle.tk_relay.specs.Serving.{IsAsking, served_part, served_parts}
use Rattle.tk_relay.proofs.Refusing.{one-epoch, all-one, head-has, head-is}
use Rattle.tk_relay.proofs.server_parts.serve_part.Goals as goal

pub serve_parts-requires-clause-one_shape : goal.serve_parts-requires-clause-one_shape
serve_parts-requires-clause-one_shape c =
    all-one (λ (p : Padding). p.shape ≡ c.args.set.now.shape) c.from_ref.result.now c.args.pads.now
    c.from_ref.ensures.value c.requires.one_shape

pub serve_parts-requires-clause-sized : goal.serve_parts-requires-clause-sized
serve_parts-requires-clause-sized c =
    all-one (IsAsking c.args.set.now.shape) c.from_ref-parts.result.now c.args.part.now
    c.from_ref-parts.ensures.value c.requires.sized

pub returns-clause-kept : goal.returns-clause-kept
returns-clause-kept c =
    sym (one-epoch c.args.set.now.number c.args.part.now)
    ∙ ap (first_other_epoch c.args.set.now.number) (sym c.from_ref-parts.ensures.value)
    ∙ c.in_ok-replies.ensures.kept

pub returns-clause-sized : goal.returns-clause-sized
returns-clause-sized c =
    head-has (λ (p : Part). HasHalves (width c.args.set.now.shape) (halves_of p))
    c.in_ok-replies.replies.items (into_iter_items c.next.new.self) c.in-Some.reply
    (sym c.into_iter.ensures.rest ∙ c.in-Some.ensures.items) c.in_ok-replies.ensures.sized

pub returns-clause-served : goal.returns-clause-served
returns-clause-served c = λ shape E stands.
    let blocks = blocks_of (layout shape (before E c.args.set.now.number)) in
    let server = c.args.server in
    head-is c.in_ok-replies.replies.items (into_iter_items c.next.new.self) c.in-Some.reply
    (served_part shape blocks c.args.pads.now.pads server c.args.part.now)
    (sym c.into_iter.ensures.rest ∙ c.in-Some.ensures.items)
    (c.in_ok-replies.ensures.served shape E stands
    ∙ (λ i. served_parts shape blocks server (c.from_ref.ensures.value i)
    (c.from_ref-parts.ensures.value i)))
