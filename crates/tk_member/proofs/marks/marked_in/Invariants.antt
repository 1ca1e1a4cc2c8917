-- The positions so far that are marked.
use Rattle.std.proofs.Common.{◌≡◌, filter}
use Rattle.std.specs.List.{range_with_len}
use Rattle.tk_kernel.specs.Chosen.{has_bit}
use Rattle.tk_member.proofs.marks.marked_in.Given as goal

abbrev pub invariant-places : goal.invariant-places
invariant-places l =
    l.marked.items ≡ filter (has_bit l.marks) (range_with_len 0 l.place)
