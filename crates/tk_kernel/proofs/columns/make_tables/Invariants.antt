use Rattle.std.proofs.Common.{◌≡◌, ◌-◌, ◌*◌, ◌++◌, length, take}
use Rattle.tk_kernel.specs.Nibbles.{tables_of}
use Rattle.tk_kernel.proofs.columns.make_tables.Given as goal

abbrev pub invariant-loop-h : goal.invariant-loop-h
invariant-loop-h g l =
    (length l.tables ≡ 16)
    × (take l.h l.tables ++ tables_of g.row.N l.pass.size l.i l.pass.blocks.now l.h (2 * l.pass.bytes - l.h)
    ≡ tables_of g.row.N l.pass.size l.i l.pass.blocks.now 0 (2 * l.pass.bytes))
