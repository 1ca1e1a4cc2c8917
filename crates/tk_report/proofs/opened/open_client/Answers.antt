-- The logs that a client writes and follows ascend, and are logs of the script.
use Rattle.std.proofs.Common.{◌∙◌, ◌<◌, sym, subst}
use Rattle.std.specs.Prelude.{All, ◌==◌}
use Rattle.std.specs.List.Sorted.{IsStrictlyIncreasing}
use Rattle.tk_script.specs.Sent.{writer_of}
use Rattle.tk_report.specs.Report.{is_follower}
use Rattle.tk_report.proofs.ClientsLaws.{passing-below, passing-ascend}
use Rattle.tk_report.proofs.opened.open_client.Goals as goal

pub open-requires-clause-writes_ascending : goal.open-requires-clause-writes_ascending
open-requires-clause-writes_ascending c =
    let S = c.args.script.now in
    subst IsStrictlyIncreasing (sym (c.as_slice.ensures.value ∙ c.in_ok-writes.ensures))
    (passing-ascend (λ log. writer_of S log == c.args.number) S.shape.logs)

pub open-requires-clause-writes_in : goal.open-requires-clause-writes_in
open-requires-clause-writes_in c =
    let S = c.args.script.now in
    subst (All (λ log. log < S.shape.logs))
    (sym (c.as_slice.ensures.value ∙ c.in_ok-writes.ensures))
    (passing-below (λ log. writer_of S log == c.args.number) S.shape.logs)

pub open-requires-clause-follows_ascending : goal.open-requires-clause-follows_ascending
open-requires-clause-follows_ascending c =
    let S = c.args.script.now in
    subst IsStrictlyIncreasing (sym (c.as_slice-2.ensures.value ∙ c.in_ok-follows.ensures))
    (passing-ascend (is_follower S c.args.number) S.shape.logs)

pub open-requires-clause-follows_in : goal.open-requires-clause-follows_in
open-requires-clause-follows_in c =
    let S = c.args.script.now in
    subst (All (λ log. log < S.shape.logs))
    (sym (c.as_slice-2.ensures.value ∙ c.in_ok-follows.ensures))
    (passing-below (is_follower S c.args.number) S.shape.logs)
