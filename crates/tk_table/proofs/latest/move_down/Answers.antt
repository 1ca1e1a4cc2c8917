use Rattle.std.proofs.Common.{arith}
use Rattle.tk_table.proofs.Runs.{moved_down}
use Rattle.tk_table.proofs.latest.move_down.Goals as goal

pub returns-clause-items : goal.returns-clause-items
returns-clause-items g c =
    moved_down _ _ _ c.args.start _ _ (omega (arith, c.args.items.now.ok.0)) c.requires
    (omega arith) c.copy_within.ensures.items c.truncate.ensures.items
