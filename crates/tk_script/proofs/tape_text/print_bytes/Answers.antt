-- What is printed is read back.
use Rattle.std.proofs.Common.{arith}
use Rattle.tk_script.proofs.PrintedLaws.{prints_tapes}
use Rattle.tk_script.proofs.tape_text.print_bytes.Goals as goal

pub returns-clause-reads : goal.returns-clause-reads
returns-clause-reads c = prints_tapes c.args.tape.now (λ i. omega (arith, c.type_inv.tape i))
