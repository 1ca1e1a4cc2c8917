-- What was taken is what was read before and the piece that came last.
use Rattle.std.proofs.Common.{◌≡◌, ◌+◌, ◌≤◌, ◌++◌, refl, take, length, length-append, length-take-le, arith}
use Rattle.tk_io.proofs.Contents.{taken_more}
use Rattle.tk_io.proofs.reading.read_all.Goals as goal

pub returns-then-n-room-clause-taken : goal.returns-then-n-room-clause-taken
returns-then-n-room-clause-taken g c =
    let within : c.in-Ok.n ≤ c.min-asked.result = grind (arith, length-take-le, c.in-Ok.ensures.within) in
    let counted : length (c.pieces.all.items ++ take c.in-Ok.n c.take-got.new.buf) ≡ length c.pieces.all.items + c.in-Ok.n = grind (arith, length-append, length-take-le, c.in-Ok.ensures.within) in (
      c.pieces.all.items ++ take c.in-Ok.n c.take-got.new.buf,
      record {
        bytes = taken_more _ _ _ _ _ c.pieces.invariant.taken c.in-Ok.ensures.bytes;
        most = omega arith;
        exactly = (λ _. omega arith, λ _. refl);
      },
    )

pub returns-then-is_err-clause-taken : goal.returns-then-is_err-clause-taken
returns-then-is_err-clause-taken g c =
    let counted : length (c.pieces.all.items ++ take c.in-Ok.n c.take-got.new.buf) ≡ length c.pieces.all.items + c.in-Ok.n = grind (arith, length-append, length-take-le, c.in-Ok.ensures.within) in (
      c.pieces.all.items ++ take c.in-Ok.n c.take-got.new.buf,
      record {
        bytes = taken_more _ _ _ _ _ c.pieces.invariant.taken c.in-Ok.ensures.bytes;
        most = omega arith;
        exactly = (λ other. cc, λ over. absurd (omega arith));
      },
    )
