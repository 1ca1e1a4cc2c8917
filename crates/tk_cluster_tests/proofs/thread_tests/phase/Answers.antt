-- All passes stay there, each once.
use Rattle.std.proofs.Common.{◌≡◌, ◌∙◌, sym, subst, Option}
use Rattle.std.specs.Prelude.{IfSome}
use Rattle.tk_board.specs.Boards.{Known}
use Rattle.tk_cluster.specs.declared.set.EpochSet.{EpochSet}
use Rattle.tk_cluster.proofs.Offers.{once_stays}
use Rattle.tk_cluster_tests.proofs.TwoPasses.{once_on}
use Rattle.tk_cluster_tests.proofs.thread_tests.phase.Goals as goal

pub returns-in_err-notes : goal.returns-in_err-notes
returns-in_err-notes g c =
    once_on g.B.Naming.shape c.args.herald.now.publisher.board c.at_once.new.herald.publisher.board
    c.args.passes.now c.at_once.new.passes c.at_once.ensures.board c.at_once.ensures.passes c.requires

pub returns-in_default : goal.returns-in_default
returns-in_default g c =
    once_on g.B.Naming.shape c.args.herald.now.publisher.board c.at_once.new.herald.publisher.board
    c.args.passes.now c.at_once.new.passes c.at_once.ensures.board c.at_once.ensures.passes c.requires

pub told_both-requires : goal.told_both-requires
told_both-requires g c =
    let board = c.args.herald.now.publisher.board in
    let once =
    once_stays g.B.Naming.shape board c.args.passes.now c.at_once.new.passes c.at_once.ensures.passes
    c.requires
    in
    let told : c.in-Some.told.board ≡ board =
    subst (λ (o : Option (Known EpochSet)). IfSome o (λ t. t.board ≡ board))
    (sym c.in-Some.ensures.value) c.in_ok-notes.ensures.told in
    λ k d lt. once.of_board k d lt ∙ sym told

pub returns-then-not-told_both : goal.returns-then-not-told_both
returns-then-not-told_both g c =
    once_stays g.B.Naming.shape c.at_once.new.herald.publisher.board c.at_once.new.passes
    c.told_both.new.passes c.told_both.ensures
    (once_on g.B.Naming.shape c.args.herald.now.publisher.board
    c.at_once.new.herald.publisher.board c.args.passes.now c.at_once.new.passes
    c.at_once.ensures.board c.at_once.ensures.passes c.requires)

pub returns-then-not-met : goal.returns-then-not-met
returns-then-not-met g c =
    once_on g.B.Naming.shape c.at_once.new.herald.publisher.board c.met.new.herald.publisher.board
    c.told_both.new.passes c.met.new.passes c.met.ensures.board c.met.ensures.passes
    (once_stays g.B.Naming.shape c.at_once.new.herald.publisher.board c.at_once.new.passes
    c.told_both.new.passes c.told_both.ensures
    (once_on g.B.Naming.shape c.args.herald.now.publisher.board
    c.at_once.new.herald.publisher.board c.args.passes.now c.at_once.new.passes
    c.at_once.ensures.board c.at_once.ensures.passes c.requires))

pub returns : goal.returns
returns g c =
    once_on g.B.Naming.shape c.at_once.new.herald.publisher.board c.met.new.herald.publisher.board
    c.told_both.new.passes c.met.new.passes c.met.ensures.board c.met.ensures.passes
    (once_stays g.B.Naming.shape c.at_once.new.herald.publisher.board c.at_once.new.passes
    c.told_both.new.passes c.told_both.ensures
    (once_on g.B.Naming.shape c.args.herald.now.publisher.board
    c.at_once.new.herald.publisher.board c.args.passes.now c.at_once.new.passes
    c.at_once.ensures.board c.at_once.ensures.passes c.requires))
