use Rattle.std.proofs.Common.{◌≡◌, ◌∙◌, ◌+◌, ◌-◌, ◌*◌, ◌++◌, suc, take, ap, arith, length-set}
use Rattle.tk_kernel.specs.Nibbles.{tables_of}
use Rattle.tk_kernel.proofs.Fours.{table_made}
use Rattle.tk_kernel.proofs.columns.make_tables.Goals as goal

pub loop-h-preserved : goal.loop-h-preserved
loop-h-preserved g c =
    let pass = c.args.pass.now in
    let h = c.loop-h.h in
    let later = 2 * pass.bytes - (h + 1) in
    let left : suc later ≡ 2 * pass.bytes - h = omega (arith, c.loop-h-test.true) in (
      length-set c.loop-h.tables h c.fill_table.new.table ∙ c.loop-h.invariant.0,
      table_made g.row.N pass.size c.args.i h later pass.blocks.now c.loop-h.tables c.fill_table.new.table (omega (arith, c.loop-h.invariant.0, c.requires.bytes, c.loop-h-test.true)) c.fill_table.ensures
          ∙ ap (λ m. take h c.loop-h.tables ++ tables_of g.row.N pass.size c.args.i pass.blocks.now h m) left
          ∙ c.loop-h.invariant.1,
    )
