-- Where something is said on one more log, it stands after the others.
use Rattle.tk_make.specs.Making.{is_said, made_say}
use Rattle.tk_make.proofs.Ranges.{passes_next, passed_over}
use Rattle.tk_make.proofs.says.push_tick.Goals.{then-is_said+in_ok-make_say+in_ok-push, else-is_said}
use Rattle.tk_make.proofs.says.push_tick.Goals as goal

pub loop-log-preserved : goal.loop-log-preserved
loop-log-preserved c =
    let test = is_said c.args.number c.args.when.0 c.args.when.1 in
    let made = made_say c.args.when.0 c.args.when.1 in
    let log = c.loop-log.log in
    let old = c.args.says.now.items in
    elim c.if-is_said.branch [
      | then-is_said+in_ok-make_say+in_ok-push w ↦
          rw w.says-is
          (passes_next test made log old c.loop-log.invariant w.if-is_said.ensures
          w.in_ok-push.ensures.items w.in_ok-make_say.ensures)
      | else-is_said w ↦
          rw w.says-is (passed_over test made log old c.loop-log.invariant w.if-is_said.ensures)
    ]
