-- A frame that is refused for its own fault is refused so.
use Rattle.std.proofs.Common.{refl, sym, subst}
use Rattle.std.specs.Prelude.{IfErr}
use Rattle.std.proofs.lemmas.Result.{err_from_is_err_and}
use Rattle.tk_frames.specs.Faults.{first_fault, read_checks}
use Rattle.tk_cluster.specs.Refusals.{answer_refusal, other_epoch, IsAnswerRefusal, IsManyRefusal}
use Rattle.tk_frames.specs.Fields.{read_in}
use Rattle.tk_cluster.proofs.Together.{refused-frame, refused-bytes}
use Rattle.tk_cluster.proofs.set.EpochSet.read.Goals as goal

pub returns-in_err-read-clause-refused : goal.returns-in_err-read-clause-refused
returns-in_err-read-clause-refused c =
    let s = c.args.self.now in
    let bytes = c.args.frame.now in
    let gave = err_from_is_err_and c.from_residual.result c.from_residual.ensures.1 in
    subst (λ r. IfErr r (IsAnswerRefusal s.shape s.number bytes)) (sym gave.1)
    (subst (IsAnswerRefusal s.shape s.number bytes) (sym gave.2)
    (refused-bytes s.shape s.number bytes (first_fault (read_checks s.shape bytes))
    c.in_err-read.field-0.0 refl c.in_err-read.ensures.refused))

pub returns-in_err-read-clause-unanswered : goal.returns-in_err-read-clause-unanswered
returns-in_err-read-clause-unanswered c =
    let s = c.args.self.now in
    let bytes = c.args.frame.now in
    let refusal = answer_refusal s.shape s.number bytes in
    let gave = err_from_is_err_and c.from_residual.result c.from_residual.ensures.1 in
    subst (λ r. IfErr r (IsManyRefusal refusal)) (sym gave.1)
    (subst (IsManyRefusal refusal) (sym gave.2)
    (refused-frame (first_fault (read_checks s.shape bytes)) c.in_err-read.field-0.0
    (other_epoch s.number (read_in s.shape bytes).epoch) c.in_err-read.ensures.refused))
