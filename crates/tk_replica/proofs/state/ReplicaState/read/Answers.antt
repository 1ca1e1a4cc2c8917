-- A frame that is refused for its own fault is refused so.
use Rattle.std.proofs.Common.{sym, subst}
use Rattle.std.specs.Prelude.{IfErr, option_map}
use Rattle.std.proofs.lemmas.Result.{err_from_is_err_and}
use Rattle.tk_shape.specs.declared.shape.Shape.{Shape}
use Rattle.tk_frames.specs.Fields.{read_in}
use Rattle.tk_frames.specs.Faults.{first_fault, read_checks, IsRefusal}
use Rattle.tk_replica.specs.Refusals.{serve_refusal, serve_error, pin_refusal, IsServeRefusal}
use Rattle.tk_replica.proofs.Replying.{refused-frame}
use Rattle.tk_replica.proofs.state.ReplicaState.read.Goals as goal

pub returns-in_err-read-clause-refused : goal.returns-in_err-read-clause-refused
returns-in_err-read-clause-refused c =
    let s = c.args.self.now in
    let bytes = c.args.frame.now in
    let error = c.in_err-read.field-0.0 in
    let gave = err_from_is_err_and c.from_residual.result c.from_residual.ensures.1 in
    let refused =
    subst (λ (shape : Shape). IsRefusal (first_fault (read_checks shape bytes)) error) c.shape.ensures
    c.in_err-read.ensures.refused
    in
    let told =
    refused-frame (first_fault (read_checks s.shape bytes)) error
    (option_map serve_error (pin_refusal s (read_in s.shape bytes).epoch)) refused
    in
    subst (λ r. IfErr r (IsServeRefusal (serve_refusal s bytes))) (sym gave.1)
    (subst (IsServeRefusal (serve_refusal s bytes)) (sym gave.2) told)
