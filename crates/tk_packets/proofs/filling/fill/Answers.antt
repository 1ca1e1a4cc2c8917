-- The piece that came is put behind the bytes that are there.
use Rattle.std.proofs.Common.{◌≤◌, length, take, sym, ap, ◌∙◌, rules}
use Rattle.tk_io.specs.Content.{before_taking}
use Rattle.tk_io.proofs.Offers.{taken_more}
use Rattle.tk_packets.proofs.Pieces.{filled_more}
use Rattle.tk_packets.proofs.filling.fill.Goals as goal

pub pieces-preserved : goal.pieces-preserved
pieces-preserved g c =
    let piece = c.take.new.buf in
    let within : c.in-Ok.n ≤ length piece = search rules in
    let both = taken_more _ _ _ (take c.pieces.done c.pieces.buf)
    (take c.in-Ok.n piece) c.pieces.invariant.taken c.in-Ok.ensures.bytes in
    record {
      taken = both ∙ ap (λ xs. before_taking xs (g.S.Source.left c.take.new.self))
          (sym (filled_more c.pieces.buf piece c.pieces.done _ c.in-Ok.n c.pieces.invariant.within within));
      within = search rules;
      counts = search rules;
    }
