use Rattle.std.proofs.Common.{◌≡◌, ◌-◌, ◌*◌, ◌/◌, ◌<◌, ◌≤◌, length, arith, rules, ◌∙◌, take, drop}
use Rattle.tk_kernel.specs.Pieces.{all_pieces}
use Rattle.tk_kernel.proofs.Offers.{length-pieces}
use Rattle.tk_answer.proofs.Offers.{run_of_slice}
use Rattle.tk_answer.specs.Runs.{IsRun}
use Rattle.tk_sum_tests.proofs.answer_tests.PagedBlocks.run.Goals as goal

pub returns : goal.returns
returns c =
    let i = c.args.i in
    let end = c.min-end.result in
    let bytes = c.args.self.now.bytes in
    let long : length bytes ≡ 9144 = search rules in
    let count : length (all_pieces 127 bytes) ≡ 72 = length-pieces 127 (length bytes / 127) bytes ∙ omega arith in
    let more : i < end = omega (arith, c.min-end.ensures, c.args.self.now.some, count, c.requires) in
    let last : end ≤ 72 = omega (arith, c.min-end.ensures) in
    let part : (end - i) * 127 ≡ end * 127 - i * 127 = omega arith in
    let run : IsRun (all_pieces 127 bytes) i (take ((end - i) * 127) (drop (i * 127) bytes)) =
    run_of_slice 127 i (end - i) bytes (omega arith) (omega arith) (omega arith) in
    rw part at run
