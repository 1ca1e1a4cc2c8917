use Rattle.tk_kernel.proofs.Fours.{sixteen_set}
use Rattle.tk_kernel.proofs.nibbles.fill_table.Goals as goal

pub returns : goal.returns
returns g c =
    rw (c.plus-8.ensures, c.plus-7.ensures, c.plus-6.ensures, c.plus-5.ensures, c.plus-4.ensures, c.plus-3.ensures, c.plus-2.ensures, c.plus.ensures, c.plus-of_bcd.ensures, c.plus-of_cd.ensures, c.plus-of_bd.ensures, c.plus-of_d.ensures, c.plus-of_bc.ensures, c.plus-of_c.ensures, c.plus-of_b.ensures)
    (sixteen_set c.args.table.now c.told-table _ _ _ _ _ _ _ _ _ _ _ _ _ _ _ _)
