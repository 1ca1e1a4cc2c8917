-- The request pads come first.
use Rattle.std.proofs.Common.{◌-◌, ◌*◌, ◌∙◌, length, ap, sym, arith}
use Rattle.tk_shape.specs.Lengths.{vector_len}
use Rattle.tk_relay.specs.Halves.{Halves}
use Rattle.tk_relay.proofs.PadLaws.{pads-are, pad-sized, pad-stands, pads-within, requests-within}
use Rattle.tk_relay.proofs.pads.Pads.request.Goals as goal

pub pad_at-requires-clause-long : goal.pad_at-requires-clause-long
pad_at-requires-clause-long c =
    let shape = c.self.inside.shape in
    let bytes = c.self.inside.bytes.items in
    let several = shape.in_range.servers_low in
    let high = rw (← c.self.view_is) at c.requires.high in
    let within = pads-within c.args.server (shape.servers - 1) (2 * vector_len shape) (length bytes)
    (omega (arith, high, several)) (requests-within shape bytes c.self.invariant)
    in
    rw (c.as_slice.ensures.value, c.vector_len-size.ensures) within

pub returns-clause-sized : goal.returns-clause-sized
returns-clause-sized c =
    let shape = c.self.inside.shape in
    let are = pads-are shape c.self.inside.bytes.items c.self.invariant in
    let high = rw (← c.self.view_is) at c.requires.high in
    rw (← c.self.view_is)
    (pad-sized shape (vector_len shape) _ are.requests_counted are.requests_sized c.args.server
    c.requires.low high)

pub returns-clause-first : goal.returns-clause-first
returns-clause-first c =
    let shape = c.self.inside.shape in
    let bytes = c.self.inside.bytes.items in
    let several = shape.in_range.servers_low in
    let high = rw (← c.self.view_is) at c.requires.high in
    let stands = pad-stands (vector_len shape) (shape.servers - 1) c.args.server bytes c.requires.low
    (omega (arith, high, several))
    in
    let found = rw (c.as_slice.ensures.value, c.vector_len-size.ensures) at c.pad_at.ensures.first in
    rw (← c.self.view_is) (found ∙ ap (λ (x : Halves). x.first) (sym stands))

pub returns-clause-second : goal.returns-clause-second
returns-clause-second c =
    let shape = c.self.inside.shape in
    let bytes = c.self.inside.bytes.items in
    let several = shape.in_range.servers_low in
    let high = rw (← c.self.view_is) at c.requires.high in
    let stands = pad-stands (vector_len shape) (shape.servers - 1) c.args.server bytes c.requires.low
    (omega (arith, high, several))
    in
    let found = rw (c.as_slice.ensures.value, c.vector_len-size.ensures) at c.pad_at.ensures.second in
    rw (← c.self.view_is) (found ∙ ap (λ (x : Halves). x.second) (sym stands))
