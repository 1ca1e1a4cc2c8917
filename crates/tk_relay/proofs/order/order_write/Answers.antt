-- The frame's write is the client's, and stands where it was due.
use Rattle.std.proofs.Common.{◌∙◌, ◌++◌, ℕ, List, ap, sym}
use Rattle.tk_frames.specs.Spelling.{write_frame}
use Rattle.tk_relay.proofs.NextOrdered.{ordered-there}
use Rattle.tk_relay.proofs.order.order_write.Goals as goal

pub returns-clause-own : goal.returns-clause-own
returns-clause-own g c =
    let shape = g.B.Naming.shape in
    ordered-there shape c.args.write.now c.as_slice.result.now c.args.position c.args.pass.now
    c.write.new.pass (c.one_spelling.ensures.writes shape) c.requires
    (c.as_slice.ensures.value ∙ c.in_ok-encode_write.ensures.ok
    ∙ ap (λ (xs : List ℕ). xs ++ write_frame c.args.write.now) c.new-frame.ensures.items)
    c.in-Ok.ensures.wrote (sym c.if-at-position.false ∙ c.in-Ok.ensures.last)
