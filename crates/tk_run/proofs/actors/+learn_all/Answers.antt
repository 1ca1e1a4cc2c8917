-- The first pass learns, and then the others.
use Rattle.std.proofs.Common.{◌∷◌, List, subst, sym}
use Rattle.tk_board.specs.Boards.{Known}
use Rattle.tk_cluster.specs.declared.set.EpochSet.{EpochSet}
use Rattle.tk_cluster.specs.Clusters.{Each}
use Rattle.tk_cluster.specs.Passes.{Passing, ReadsOnly, Learns}
use Rattle.tk_run.proofs.actors.+learn_all.Goals as goal

pub returns-clause-ok : goal.returns-clause-ok
returns-clause-ok g t c =
    let told = c.args.told.now in
    let others = c.in-Some.others.now in
    subst (λ (xs : List Passing). Each (ReadsOnly (λ r s. Learns r told s)) xs
    (c.learn.new.pass ∷ c.learn_all.new.passes))
    (sym c.in-Some.ensures.cases.0) (
      c.in_ok-learn.ensures.ok,
      subst (λ (k : Known EpochSet). Each (ReadsOnly (λ r s. Learns r k s)) others
          c.learn_all.new.passes)
          c.in_ok-learn.ensures.told c.in_ok-learn_all.ensures.ok,
    )
