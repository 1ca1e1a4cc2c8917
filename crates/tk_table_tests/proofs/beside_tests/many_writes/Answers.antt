use Rattle.tk_table_tests.proofs.beside_tests.many_writes.Goals.{then-i-eq0+in_ok-now+else-not-shows+else-not-shows-2, else-i-eq0}
use Rattle.tk_table_tests.proofs.beside_tests.many_writes.Goals as goal

pub loop-i-preserved : goal.loop-i-preserved
loop-i-preserved c =
    let put = c.put.ensures in
    elim c.if-i-eq0.branch [
      | then-i-eq0+in_ok-now+else-not-shows+else-not-shows-2 w ↦
          rw (w.table-is, w.snapshot-then-i-eq0.ensures.kept) (put.buckets, put.block, put.latest)
      | else-i-eq0 w ↦ rw w.table-is (put.buckets, put.block, put.latest)
    ]
