-- The parts so far are written, and those of the pieces that are left are still to come.
use Rattle.std.proofs.Common.{◌≡◌, ◌+◌, ◌-◌, ◌*◌, ◌++◌, length, take, drop}
use Rattle.std.specs.List.{flat_map}
use Rattle.tk_kernel.specs.Pieces.{pieces}
use Rattle.tk_words.proofs.cells.take_apart.Given as goal

abbrev pub invariant-pieces : goal.invariant-pieces
invariant-pieces l =
    let size = l.front + l.back in
    (length l.rest ≡ (l.count - l.i) * size)
    × (take (l.i * l.front) l.fronts ++ flat_map (take l.front) (pieces size (l.count - l.i) l.rest)
    ≡ flat_map (take l.front) (pieces size l.count l.bytes))
    × (take (l.i * l.back) l.backs ++ flat_map (drop l.front) (pieces size (l.count - l.i) l.rest)
    ≡ flat_map (drop l.front) (pieces size l.count l.bytes))
