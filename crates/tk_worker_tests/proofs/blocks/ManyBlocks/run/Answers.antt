use Rattle.std.proofs.Common.{◌≡◌, ◌/◌, length, ◌∙◌, arith, rules}
use Rattle.tk_kernel.specs.Pieces.{all_pieces}
use Rattle.tk_kernel.proofs.Offers.{length-pieces}
use Rattle.tk_worker_tests.proofs.BlockRuns.{run-from}
use Rattle.tk_worker_tests.proofs.blocks.ManyBlocks.run.Goals as goal

pub returns : goal.returns
returns c =
    let bytes = c.args.self.now.bytes in
    let long : length bytes ≡ 120 = search rules in
    let count : length (all_pieces 5 bytes) ≡ 24 = length-pieces 5 (length bytes / 5) bytes ∙ omega arith in
    run-from 5 24 c.args.i bytes (omega arith) long (omega (arith, count, c.requires))
