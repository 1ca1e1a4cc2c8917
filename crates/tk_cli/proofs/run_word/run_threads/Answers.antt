-- How a run with threads ends.
use Rattle.std.proofs.Common.{◌∙◌, refl, arith}
use Rattle.std.specs.Prelude.{Some, Ok, Err, Result}
use Rattle.tk_script.specs.declared.form.Form.TheVariants as form
use Rattle.tk_script.specs.declared.script.Script.{Script}
use Rattle.tk_words.specs.Words.{WordBook, words_of}
use Rattle.tk_script.specs.Book.{book_of}
use Rattle.tk_io.proofs.Offers.{fronts-of_all}
use Rattle.tk_report.specs.declared.outcome.Outcome.{Outcome}
use Rattle.tk_report.specs.Outcomes.{outcome_text}
use Rattle.tk_cluster.specs.Closings.{Ended as Closed}
use Rattle.tk_run.specs.declared.run_error.RunError.{RunError}
use Rattle.tk_run.specs.Threads.{CameAbout}
use Rattle.tk_cli.specs.declared.request.Request.TheVariants as request
use Rattle.tk_cli.specs.Endings.{seen_in}
use Rattle.tk_cli.specs.Outside.{outside}
use Rattle.tk_cli.proofs.EndingLaws.{told}
use Rattle.tk_cli.proofs.WordLaws.{run-reads, early, run-early, run-told, as-input, run-due}
use Rattle.tk_cli.proofs.run_word.run_threads.Goals as goal

pub returns-in-Err : goal.returns-in-Err
returns-in-Err g c =
    early (request.Run c.args.crew.now.workers c.args.crew.now.shards) (run-reads c.args.crew.now.workers c.args.crew.now.shards) c.without.result _ _
    (record { source = c.ready.ensures.counts; sink = omega arith; taps = omega arith })
    c.in-Err.status c.without.ensures.status c.without.ensures.nothing c.in-Err.ensures.taken
    (record { held = refl; faults = refl }) (record { tap = λ j. refl; faults = refl })
    (c.in-Err.ensures.stopped (request.Run c.args.crew.now.workers c.args.crew.now.shards) refl)

pub returns-in-Err-threads_by : goal.returns-in-Err-threads_by
returns-in-Err-threads_by g c =
    let left = g.S.Source.left c.args.source.now in
    let left' = g.S.Source.left c.ready.new.source in
    let tap = g.T.Taps.tap c.args.taps.now in
    let tap' = g.T.Taps.tap c.threads_by.new.taps in
    let ready = c.in-Ok.ensures.ready in
    let e = c.in-Err-threads_by.error in
    let refused : Result (Outcome × Closed) RunError = Err e in
    let came = as-input form.Run left left' c.in-Ok.input.0 c.in-Ok.input.1 ready
    (λ (S : Script) (b : WordBook). CameAbout S b refused tap tap')
    c.in-Err-threads_by.ensures.run in
    run-early (request.Run c.args.crew.now.workers c.args.crew.now.shards) (run-reads c.args.crew.now.workers c.args.crew.now.shards) c.without-in-Err-threads_by.result _ _
    (record {
      source = c.ready.ensures.counts;
      sink = omega arith;
      taps = c.threads_by.ensures.counts;
    })
    c.in-Ok.input c.in-Ok.ensures.taken (λ no. no) e
    (c.without-in-Err-threads_by.ensures.status ∙ c.from.ensures)
    c.without-in-Err-threads_by.ensures.nothing (record { held = refl; faults = refl })
    (record {
      input = ready.input;
      history = came.history;
      due = run-due form.Run left left' c.in-Ok.input.0 c.in-Ok.input.1 ready c.args.crew.now.workers
          c.args.crew.now.shards came.history refl came.legal;
      taps = record { gained = came.taps.err; others = came.taps.others };
    })
    c.in-Err-threads_by.ensures.rose

pub returns : goal.returns
returns g c =
    let left = g.S.Source.left c.args.source.now in
    let left' = g.S.Source.left c.ready.new.source in
    let tap = g.T.Taps.tap c.args.taps.now in
    let tap' = g.T.Taps.tap c.threads_by.new.taps in
    let ready = c.in-Ok.ensures.ready in
    let input = ready.input in
    let b = book_of input in
    let ran = c.in-Ok-threads_by.left in
    let o = ran.0 in
    let e = c.tell.result in
    let answer : Result (Outcome × Closed) RunError = Ok ran in
    let came = as-input form.Run left left' c.in-Ok.input.0 c.in-Ok.input.1 ready
    (λ (S : Script) (b : WordBook). CameAbout S b answer tap tap')
    c.in-Ok-threads_by.ensures.run in
    let H = came.history in
    let old = outside left (g.S.Source.faults c.args.source.now) (g.K.Sink.held c.args.sink.now)
    (g.K.Sink.faults c.args.sink.now) tap (g.T.Taps.faults c.args.taps.now) in
    let new = outside left' (g.S.Source.faults c.ready.new.source) (g.K.Sink.held c.tell.new.sink)
    (g.K.Sink.faults c.tell.new.sink) tap' (g.T.Taps.faults c.threads_by.new.taps) in
    run-told (request.Run c.args.crew.now.workers c.args.crew.now.shards) (run-reads c.args.crew.now.workers c.args.crew.now.shards) e old new
    (record {
      source = c.ready.ensures.counts;
      sink = c.tell.ensures.counts;
      taps = c.threads_by.ensures.counts;
    })
    c.in-Ok.input c.in-Ok.ensures.taken (λ no. no) (outcome_text o)
    (told (request.Run c.args.crew.now.workers c.args.crew.now.shards) e old new input H (outcome_text o) o (Some ran.1)
    (run-due form.Run left left' c.in-Ok.input.0 c.in-Ok.input.1 ready c.args.crew.now.workers
    c.args.crew.now.shards H refl came.legal)
    (record { gained = came.taps.ok; others = came.taps.others })
    (record {
      gained = fronts-of_all input.first.shape.servers (seen_in input H) tap tap' came.taps.ok;
      others = came.taps.others;
    })
    (c.ends.ensures.outcome input.first (words_of input.first.shape b) H o came.run.left)
    (λ handed closed. record {
      outcome = o;
      closed = ran.1;
      handed = handed;
      handed_closed = closed;
      run = came.run;
      shown = c.one_history.ensures.shows input.first b H came.legal;
    })
    e.status c.tell.ensures.puts c.tell.ensures.handed)
    c.tell.ensures.puts
