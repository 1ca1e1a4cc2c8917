use Rattle.std.proofs.Common.{◌≡◌}
use Rattle.tk_table.proofs.Clearing.{cleared_up_to}
use Rattle.tk_table.proofs.chain.clear_in.Given as goal

abbrev pub invariant-loop-slot : goal.invariant-loop-slot
invariant-loop-slot l =
    let old = l.initial.buckets.contents in
    l.buckets.contents
    ≡ record old { table = cleared_up_to old.block l.position old.table l.bucket l.slot }
