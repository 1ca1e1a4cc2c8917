-- The logs that are followed are logs of the script.
use Rattle.std.proofs.Common.{◌∙◌, ◌<◌, sym, subst}
use Rattle.std.specs.Prelude.{All}
use Rattle.tk_report.specs.Report.{is_follower}
use Rattle.tk_report.proofs.ClientsLaws.{passing-below}
use Rattle.tk_report.proofs.opened.open_follower.Goals as goal

pub open-requires : goal.open-requires
open-requires c =
    let S = c.args.script.now in
    record {
      follows_in = subst (All (λ log. log < S.shape.logs))
          (sym (c.as_slice.ensures.value ∙ c.in_ok-follows.ensures))
          (passing-below (is_follower S c.args.number) S.shape.logs);
    }
