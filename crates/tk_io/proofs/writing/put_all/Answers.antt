-- The piece that the sink took is the next front of what was left.
use Rattle.std.proofs.Common.{rules}
use Rattle.tk_io.proofs.Contents.{gained_more}
use Rattle.tk_io.proofs.writing.put_all.Goals as goal

pub pieces-preserved : goal.pieces-preserved
pieces-preserved g c =
    record {
      gained = gained_more _ _ _ c.args.bytes.now c.pieces.done c.in-Ok.n c.pieces.invariant.gained c.in-Ok.ensures.bytes;
      counts = search rules;
    }
