-- The set's blocks are those that the writes before its mark leave.
use Rattle.std.proofs.Common.{◌∙◌}
use Rattle.std.proofs.lemmas.List.Elements.{All-from_recursion}
use Rattle.tk_shape.specs.Lengths.{width}
use Rattle.tk_relay.specs.declared.part.Part.{Part}
use Rattle.tk_relay.specs.Halves.{HasHalves}
use Rattle.tk_relay.specs.Parts.{halves_of}
use Rattle.tk_relay.specs.Serving.{served_parts}
use Rattle.tk_relay.proofs.server_parts.serve_parts.Goals as goal

pub replies_over-requires : goal.replies_over-requires
replies_over-requires c = (
  c.args.set.now.shape,
  record { counted = c.blocks-2.ensures.count; wide = c.blocks-2.ensures.width },
  record {
    low = c.requires.server.0;
    high = c.requires.server.1;
    counted = c.requires.counted;
    one_shape = c.requires.one_shape;
    sized = c.requires.sized;
  },
)

pub returns-clause-sized : goal.returns-clause-sized
returns-clause-sized c =
    let shape = c.args.set.now.shape in
    All-from_recursion (λ (p : Part). HasHalves (width shape) (halves_of p))
    c.in_ok-replies_over.field-0.items
    (c.in_ok-replies_over.ensures.sized shape
    (record { counted = c.blocks-2.ensures.count; wide = c.blocks-2.ensures.width })
    (record {
      low = c.requires.server.0;
      high = c.requires.server.1;
      counted = c.requires.counted;
      one_shape = c.requires.one_shape;
      sized = c.requires.sized;
    }))

pub returns-clause-served : goal.returns-clause-served
returns-clause-served c = λ shape E stands.
    let same = stands.same in
    c.in_ok-replies_over.ensures.served c.args.set.now.shape
    (record { counted = c.blocks-2.ensures.count; wide = c.blocks-2.ensures.width })
    (record {
      low = c.requires.server.0;
      high = c.requires.server.1;
      counted = c.requires.counted;
      one_shape = c.requires.one_shape;
      sized = c.requires.sized;
    })
    ∙ (λ i. served_parts (same i) (c.blocks-2.ensures.stands shape E stands i) c.args.server
    c.args.pads.now c.args.parts.now)
