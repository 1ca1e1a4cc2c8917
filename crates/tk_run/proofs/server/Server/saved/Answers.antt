-- What it has applied ends with a mark, and is what is written and would be accepted.
use Rattle.std.proofs.Common.{◌∙◌, ◌++◌, ap, refl}
use Rattle.tk_checkpoint.specs.Saved.{saved}
use Rattle.tk_run.proofs.ResumingLaws.{at_mark}
use Rattle.tk_run.proofs.server.Server.saved.Goals as goal

pub returns-clause-ends : goal.returns-clause-ends
returns-clause-ends c = λ shape E bytes is.
    (c.written_at_marks.ensures shape E c.args.self.now.state is.state).0
    (at_mark c.args.self.now.state c.in-Ok.ensures.at_mark)

pub returns-clause-accepted : goal.returns-clause-accepted
returns-clause-accepted c = λ shape E bytes is.
    let ends = (c.written_at_marks.ensures shape E c.args.self.now.state is.state).0
    (at_mark c.args.self.now.state c.in-Ok.ensures.at_mark)
    in
    (c.checkpoints_accepted.ensures shape E E is.state.order ends).1 (refl, refl)

pub returns-clause-saved : goal.returns-clause-saved
returns-clause-saved c = λ shape E bytes is.
    c.in-Ok.ensures.saved shape E is.state ∙ ap (λ out. out ++ saved shape E) c.new-out.ensures.items
