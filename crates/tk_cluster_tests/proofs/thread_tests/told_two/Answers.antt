-- Both passes are of the board.
use Rattle.tk_cluster_tests.proofs.TwoPasses.{board_first, board_second}
use Rattle.tk_cluster_tests.proofs.thread_tests.told_two.Goals as goal

pub learn_both-requires : goal.learn_both-requires
learn_both-requires g c =
    let board = c.args.told.now.board in
    let first = c.in_ok-passes.first.now in
    let rest = c.in_ok-passes.rest.now in
    let second = c.in_ok-rest.second.now in
    let more = c.in_ok-rest.field-0-1.now in
    let here = c.in_ok-passes.ensures.cases.0 in
    let next = c.in_ok-rest.ensures.cases.0 in (
      board_first board c.args.passes.now rest first here c.requires,
      board_second board c.args.passes.now rest more first second here next c.requires,
    )
