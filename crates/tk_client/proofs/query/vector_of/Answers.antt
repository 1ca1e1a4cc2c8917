-- The last server's vector lies after the others, which are pieces of what is drawn.
use Rattle.std.proofs.Common.{◌≡◌, ◌∙◌, ap, sym, ◌+◌, ◌-◌, ◌*◌, ◌≤◌, length, arith}
use Rattle.std.proofs.Math.Nat.{mul-le-mul_right}
use Rattle.tk_shape.specs.Lengths.{vector_len}
use Rattle.tk_client.proofs.AskingLaws.{vector_before, vector_behind, vector_some}
use Rattle.tk_client.proofs.query.vector_of.Goals as goal

pub returns-then-server-shape : goal.returns-then-server-shape
returns-then-server-shape c =
    let shape = c.args.shape.now in
    let shares = c.args.shares.now in
    let size = vector_len shape in
    vector_behind size (c.args.server - 1) shares.drawn.now shares.last.now (vector_some shape)
    (c.requires.drawn_long ∙ ap (λ n. (n - 1) * size) (sym c.if-server-shape.true)) c.requires.last_long

pub returns : goal.returns
returns c =
    let shape = c.args.shape.now in
    let shares = c.args.shares.now in
    let size = c.vector_len-size.result in
    let place = c.args.server - 1 in
    let start = place * size in
    let taken : start + size - start ≡ vector_len shape =
    omega (arith, c.vector_len-size.ensures)
    in
    let from = ap (λ n. place * n) c.vector_len-size.ensures in
    let others : place + 1 ≤ shape.servers - 1 =
    omega (
      arith,
      c.requires.server_low,
      c.requires.server_high,
      c.if-server-shape.false,
      shape.in_range.servers_low,
    )
    in
    let within : (place + 1) * vector_len shape ≤ length shares.drawn.now =
    omega (arith, mul-le-mul_right (vector_len shape) others, c.requires.drawn_long)
    in
    vector_before (vector_len shape) place (start + size - start) start shares.drawn.now shares.last.now
    (vector_some shape) taken from within
