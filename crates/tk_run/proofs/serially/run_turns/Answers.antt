-- The run at its end, as it is under what its servers began anew from.
use Rattle.std.proofs.Common.{arith}
use Rattle.tk_shape.specs.Lengths.{turn_count}
use Rattle.tk_words.specs.Words.{words_of}
use Rattle.tk_run.specs.declared.resume_error.ResumeError.TheVariants as resume
use Rattle.tk_run.specs.Keeping.{held_now, turn_due}
use Rattle.tk_run.specs.Servers.{nothing_seen}
use Rattle.tk_io.proofs.Offers.{on_err}
use Rattle.tk_run.proofs.ErrorLaws.{passed-on}
use Rattle.tk_run.proofs.serially.run_turns.Goals as goal

pub displaced-displaced-requires : goal.displaced-displaced-requires
displaced-displaced-requires g c =
    let low = c.args.script.now.shape.in_range.servers_low in
    omega (arith, low, c.in_ok-run.ensures.running.servers.counted)

pub returns-in_err-run-clause-refused : goal.returns-in_err-run-clause-refused
returns-in_err-run-clause-refused g c =
    passed-on c.from_residual.result _ resume.Refused _ c.from_residual.ensures.1
    c.in_err-run.ensures.refused

pub returns-in_err-run-clause-err : goal.returns-in_err-run-clause-err
returns-in_err-run-clause-err g c given begins =
    on_err _ c.from_residual.result (c.in_err-run.ensures.err given begins)

pub returns-in_err-run-clause-rose : goal.returns-in_err-run-clause-rose
returns-in_err-run-clause-rose g c =
    passed-on c.from_residual.result _ resume.Taps _ c.from_residual.ensures.1
    c.in_err-run.ensures.rose

pub returns-in_err-run-clause-failed : goal.returns-in_err-run-clause-failed
returns-in_err-run-clause-failed g c =
    passed-on c.from_residual.result _ resume.Taps _ c.from_residual.ensures.1
    c.in_err-run.ensures.failed

pub returns-clause-left : goal.returns-clause-left
returns-clause-left g c given begins =
    let S = c.args.script.now in
    let book = g.D.Draws.book c.args.draws.now in
    let H = c.args.history.now in
    let held = held_now S (words_of S.shape book) H (turn_due S c.args.due) given (turn_count S.shape) in
    let run = c.in_ok-run.ensures.run given begins in
    record {
      clients = run.clients;
      displaced = c.displaced-displaced.ensures S.shape held nothing_seen run.servers;
    }
