-- The cells so far are appended, and those that are left are still to come.
use Rattle.std.proofs.Common.{◌≡◌, ◌-◌, ◌*◌, ◌++◌, length, flat_map}
use Rattle.tk_kernel.specs.Pieces.{pieces}
use Rattle.tk_words.specs.Lifting.{lifted_read_cell}
use Rattle.tk_words.proofs.lifting.push_read_cells.Given as goal

abbrev pub invariant-cells : goal.invariant-cells
invariant-cells l =
    (length l.rest ≡ (l.count - l.counter) * l.size)
    × (l.out.items ++ flat_map (lifted_read_cell l.shape) (pieces l.size (l.count - l.counter) l.rest)
    ≡ l.initial.out.items ++ flat_map (lifted_read_cell l.shape) (pieces l.size l.count l.cells))
