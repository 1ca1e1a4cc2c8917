-- The state that is made anew has as many entries and marks, and stands for what it was given.
use Rattle.std.proofs.Common.{◌≡◌, ◌∙◌, ◌-◌, sym, arith}
use Rattle.tk_run.specs.declared.resume_error.ResumeError.TheVariants as resume
use Rattle.tk_run.proofs.ErrorLaws.{passed-on}
use Rattle.tk_run.proofs.ResumingLaws.{made-applied, made-last}
use Rattle.tk_run.proofs.server.Server.go_on.Goals as goal
use Rattle.tk_run.proofs.server.Server.go_on.Goals.{then-applied-via-then-applied}
use Rattle.tk_run.proofs.server.Server.go_on.Goals.{then-applied-via-else-applied+then-last}

pub returns-clause-accepted : goal.returns-clause-accepted
returns-clause-accepted c E seen is =
    let made = c.in_ok-state.ensures in
    let bytes = c.args.bytes.now in
    record {
      sound = made.sound;
      applied = omega (arith, made-applied c.args.shape.now bytes c.in_ok-state.state made.parts, is.state.applied);
      last = omega (arith, made-last c.args.shape.now bytes c.in_ok-state.state made.parts, is.state.last);
    }

pub returns-in_err-state-clause-refused : goal.returns-in_err-state-clause-refused
returns-in_err-state-clause-refused c E seen is =
    passed-on c.from_residual.result _ resume.Refused _ c.from_residual.ensures.1
    (λ refused accepted. c.in_err-state.ensures.refused refused accepted.sound)

pub returns-in_err-state-clause-not_taps : goal.returns-in_err-state-clause-not_taps
returns-in_err-state-clause-not_taps c =
    passed-on c.from_residual.result _ resume.Taps _ c.from_residual.ensures.1
    c.in_err-state.ensures.not_taps

pub returns-then-applied-clause-refused : goal.returns-then-applied-clause-refused
returns-then-applied-clause-refused c E seen is = λ refused accepted.
    let made = c.in_ok-state.ensures in
    let shape = c.args.shape.now in
    let bytes = c.args.bytes.now in
    let state = c.in_ok-state.state in
    let applied : state.applied ≡ c.args.self.now.state.applied =
    omega (arith, made-applied shape bytes state made.parts, accepted.applied, is.state.applied)
    in
    let last : state.last ≡ c.args.self.now.state.last =
    omega (arith, made-last shape bytes state made.parts, accepted.last, is.state.last)
    in
    elim c.then-applied.branch [
      | then-applied-via-then-applied w ↦ omega (arith, applied)
      | then-applied-via-else-applied+then-last w ↦ omega (arith, last)
    ]

pub returns-clause-ready : goal.returns-clause-ready
returns-clause-ready c E is =
    let made = c.in_ok-state.ensures in
    record {
      same = made.shape;
      last = omega (arith, is.last);
      some = omega (arith, made.floor);
      displaced = is.displaced;
    }

pub returns-clause-stands : goal.returns-clause-stands
returns-clause-stands c E F seen is order ends displaced saved =
    let made = c.in_ok-state.ensures in
    let stands = made.stands F order ends saved in
    record {
      state = stands;
      floor = omega (arith, made.floor, stands.last);
      seen = is.seen;
      displaced = is.displaced ∙ sym displaced;
    }
