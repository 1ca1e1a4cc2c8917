-- The last frame that is left is dealt to the list of its place.
use Rattle.std.proofs.Common.{arith}
use Rattle.tk_run.proofs.RowsLaws.{dealt-none}
use Rattle.tk_run.proofs.frames.deal.Goals as goal

pub dealing-init : goal.dealing-init
dealing-init c = dealt-none c.args.frames.items c.args.rows.now (omega arith)
