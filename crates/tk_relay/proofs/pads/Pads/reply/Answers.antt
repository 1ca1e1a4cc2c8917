-- The reply pads come after the request pads.
use Rattle.std.proofs.Common.{◌-◌, ◌*◌, ◌∙◌, length, drop, ap, sym, arith}
use Rattle.tk_shape.specs.Lengths.{width}
use Rattle.tk_relay.specs.Halves.{Halves}
use Rattle.tk_relay.specs.Pads.{request_len}
use Rattle.tk_relay.proofs.PadLaws.{pads-are, pad-sized, pad-stands, pads-within, replies-long}
use Rattle.tk_relay.proofs.pads.Pads.reply.Goals as goal

pub pad_at-requires-clause-long : goal.pad_at-requires-clause-long
pad_at-requires-clause-long c =
    let shape = c.self.inside.shape in
    let bytes = c.self.inside.bytes.items in
    let several = shape.in_range.servers_low in
    let high = rw (← c.self.view_is) at c.requires.high in
    let long = replies-long shape bytes c.self.invariant in
    let within = pads-within c.args.server (shape.servers - 1) (2 * width shape)
    (length (drop ((shape.servers - 1) * request_len shape) bytes))
    (omega (arith, high, several)) (omega (arith, long))
    in
    rw (c.split_at.ensures.back, c.as_slice.ensures.value, c.vector_len.ensures, c.width.ensures) within

pub returns-clause-sized : goal.returns-clause-sized
returns-clause-sized c =
    let shape = c.self.inside.shape in
    let are = pads-are shape c.self.inside.bytes.items c.self.invariant in
    let high = rw (← c.self.view_is) at c.requires.high in
    rw (← c.self.view_is)
    (pad-sized shape (width shape) _ are.replies_counted are.replies_sized c.args.server
    c.requires.low high)

pub returns-clause-first : goal.returns-clause-first
returns-clause-first c =
    let shape = c.self.inside.shape in
    let bytes = c.self.inside.bytes.items in
    let several = shape.in_range.servers_low in
    let high = rw (← c.self.view_is) at c.requires.high in
    let stands = pad-stands (width shape) (shape.servers - 1) c.args.server
    (drop ((shape.servers - 1) * request_len shape) bytes) c.requires.low
    (omega (arith, high, several))
    in
    let found = rw (c.split_at.ensures.back, c.as_slice.ensures.value, c.vector_len.ensures, c.width.ensures) at
    c.pad_at.ensures.first
    in
    rw (← c.self.view_is) (found ∙ ap (λ (x : Halves). x.first) (sym stands))

pub returns-clause-second : goal.returns-clause-second
returns-clause-second c =
    let shape = c.self.inside.shape in
    let bytes = c.self.inside.bytes.items in
    let several = shape.in_range.servers_low in
    let high = rw (← c.self.view_is) at c.requires.high in
    let stands = pad-stands (width shape) (shape.servers - 1) c.args.server
    (drop ((shape.servers - 1) * request_len shape) bytes) c.requires.low
    (omega (arith, high, several))
    in
    let found = rw (c.split_at.ensures.back, c.as_slice.ensures.value, c.vector_len.ensures, c.width.ensures) at
    c.pad_at.ensures.second
    in
    rw (← c.self.view_is) (found ∙ ap (λ (x : Halves). x.second) (sym stands))
