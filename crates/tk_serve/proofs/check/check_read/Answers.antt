-- A frame's own fault comes first, then what is due.
use Rattle.std.proofs.Common.{Some, None}
use Rattle.std.proofs.lemmas.Result.{IfOk-weaker}
use Rattle.tk_serve.proofs.CheckLaws.{read-refused, read-placed_by, read-taken}
use Rattle.tk_serve.proofs.check.check_read.Goals as goal

pub returns-in-Err : goal.returns-in-Err
returns-in-Err c =
    IfOk-weaker c.refused.result _ _
    (λ x. read-refused c.args.shape.now c.args.due.now c.args.frame.now c.in-Err.error x c.in-Err.ensures.refused)
    c.refused.ensures

pub returns-in-Some : goal.returns-in-Some
returns-in-Some c =
    read-placed_by c.args.shape.now c.args.due.now c.args.frame.now c.in-Ok.read (Some c.in-Some.cause)
    c.in-Ok.ensures.found c.in-Ok.ensures.kept c.in-Some.ensures

pub returns-in-None : goal.returns-in-None
returns-in-None c = (
  read-placed_by c.args.shape.now c.args.due.now c.args.frame.now c.in-Ok.read None c.in-Ok.ensures.found
      c.in-Ok.ensures.kept c.in-None.ensures,
  read-taken c.args.shape.now c.args.due.now c.args.frame.now c.in-Ok.read c.in-Ok.ensures.found c.in-None.ensures,
)
