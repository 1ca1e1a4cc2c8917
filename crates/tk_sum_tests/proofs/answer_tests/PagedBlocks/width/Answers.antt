use Rattle.tk_kernel.proofs.Offers.{AllSized-all_pieces}
use Rattle.tk_sum_tests.proofs.answer_tests.PagedBlocks.width.Goals as goal

pub returns-clause-each : goal.returns-clause-each
returns-clause-each c = AllSized-all_pieces 127 c.args.self.now.bytes
