use Rattle.tk_kernel.proofs.Offers.{AllSized-all_pieces}
use Rattle.tk_worker_tests.proofs.blocks.EightBlocks.width.Goals as goal

pub returns-clause-each : goal.returns-clause-each
returns-clause-each c = AllSized-all_pieces 41 c.args.self.now.bytes
