use Rattle.std.proofs.Common.{◌≡◌, ◌/◌, length, ◌∙◌, arith, rules}
use Rattle.tk_kernel.specs.Pieces.{all_pieces}
use Rattle.tk_kernel.proofs.Offers.{length-pieces}
use Rattle.tk_worker_tests.proofs.BlockRuns.{run-from}
use Rattle.tk_worker_tests.proofs.blocks.EightBlocks.run.Goals as goal

pub returns : goal.returns
returns c =
    let bytes = c.args.self.now.bytes in
    let long : length bytes ≡ 328 = search rules in
    let count : length (all_pieces 41 bytes) ≡ 8 = length-pieces 41 (length bytes / 41) bytes ∙ omega arith in
    run-from 41 8 c.args.i bytes (omega arith) long (omega (arith, count, c.requires))
