-- What each word ends with is what the words ask for.
use Rattle.std.proofs.Common.{refl, arith}
use Rattle.tk_cli.specs.declared.request.Request.TheVariants as request
use Rattle.tk_cli.specs.Endings.{Ends}
use Rattle.tk_cli.specs.Outside.{outside}
use Rattle.tk_cli.proofs.EndingLaws.{usage-is, ends-as}
use Rattle.tk_cli.proofs.WordLaws.{text-ends, view-reads, mirror-reads, wrong-reads, lift-reads}
use Rattle.tk_cli.proofs.WordLaws.{plain-view, plain-mirror, plain-wrong, plain-lift, text-written, usage-ends}
use Rattle.tk_cli.proofs.WordLaws.{handle-reads_nothing, make-reads_nothing, tally-reads_nothing}
use Rattle.tk_cli.proofs.RequestLaws.{crew-of}
use Rattle.tk_cli.proofs.top.talek.Goals as goal

pub returns-in-Serial : goal.returns-in-Serial
returns-in-Serial g c =
    let words = c.args.words.now in
    let ends = c.run_serial.ensures in
    record {
      usage = usage-is words request.Serial c.run_serial.result _ _ c.in-Serial.ensures ends;
      ends = ends-as words request.Serial c.run_serial.result _ _ c.in-Serial.ensures ends;
    }

pub returns-in-Relay : goal.returns-in-Relay
returns-in-Relay g c =
    let words = c.args.words.now in
    let ends = c.run_relayed.ensures in
    record {
      usage = usage-is words request.Relay c.run_relayed.result _ _ c.in-Relay.ensures ends;
      ends = ends-as words request.Relay c.run_relayed.result _ _ c.in-Relay.ensures ends;
    }

pub returns-in-Resume : goal.returns-in-Resume
returns-in-Resume g c =
    let words = c.args.words.now in
    let q = request.Resume c.in-Resume.epoch in
    let ends = c.run_resumed.ensures in
    record {
      usage = usage-is words q c.run_resumed.result _ _ c.in-Resume.ensures ends;
      ends = ends-as words q c.run_resumed.result _ _ c.in-Resume.ensures ends;
    }

pub returns-in-Run : goal.returns-in-Run
returns-in-Run g c =
    let words = c.args.words.now in
    let q = request.Run c.in-Run.workers c.in-Run.shards in
    let ends = c.run_threads.ensures in
    record {
      usage = usage-is words q c.run_threads.result _ _ c.in-Run.ensures ends;
      ends = ends-as words q c.run_threads.result _ _ c.in-Run.ensures ends;
    }

pub run_threads-requires-clause-workers : goal.run_threads-requires-clause-workers
run_threads-requires-clause-workers g c κs within =
    (crew-of c.args.words.now c.in-Run.workers c.in-Run.shards c.in-Run.ensures).0

pub run_threads-requires-clause-shards : goal.run_threads-requires-clause-shards
run_threads-requires-clause-shards g c κs within =
    (crew-of c.args.words.now c.in-Run.workers c.in-Run.shards c.in-Run.ensures).1

pub returns-in-View : goal.returns-in-View
returns-in-View g c =
    let words = c.args.words.now in
    let q = request.View c.in-View.server in
    let e = c.answer.result in
    let old = outside (g.S.Source.left c.args.source.now) (g.S.Source.faults c.args.source.now)
    (g.K.Sink.held c.args.sink.now) (g.K.Sink.faults c.args.sink.now)
    (g.T.Taps.tap c.args.taps.now) (g.T.Taps.faults c.args.taps.now) in
    let new = outside (g.S.Source.left c.view_text.new.source)
    (g.S.Source.faults c.view_text.new.source) (g.K.Sink.held c.answer.new.sink)
    (g.K.Sink.faults c.answer.new.sink) (g.T.Taps.tap c.args.taps.now)
    (g.T.Taps.faults c.args.taps.now) in
    let ends : Ends q e old new =
    text-ends q (view-reads c.in-View.server) (λ text. text.items) e old new
    (record {
      source = c.view_text.ensures.counts;
      sink = c.answer.ensures.counts;
      taps = omega arith;
    })
    (plain-view c.in-View.server old new) c.answer.ensures.nothing
    (record { tap = λ j. refl; faults = refl }) c.view_text.result c.view_text.ensures.made
    c.view_text.ensures.stopped c.view_text.ensures.taken c.answer.ensures.puts
    c.answer.ensures.status c.answer.ensures.quiet in
    record {
      usage = usage-is words q e old new c.in-View.ensures ends;
      ends = ends-as words q e old new c.in-View.ensures ends;
    }

pub returns-in-Mirror : goal.returns-in-Mirror
returns-in-Mirror g c =
    let words = c.args.words.now in
    let q = request.Mirror c.in-Mirror.hidden in
    let e = c.answer-in-Mirror.result in
    let told = c.answer-in-Mirror.ensures in
    let old = outside (g.S.Source.left c.args.source.now) (g.S.Source.faults c.args.source.now)
    (g.K.Sink.held c.args.sink.now) (g.K.Sink.faults c.args.sink.now)
    (g.T.Taps.tap c.args.taps.now) (g.T.Taps.faults c.args.taps.now) in
    let new = outside (g.S.Source.left c.mirror_text.new.source)
    (g.S.Source.faults c.mirror_text.new.source) (g.K.Sink.held c.answer-in-Mirror.new.sink)
    (g.K.Sink.faults c.answer-in-Mirror.new.sink) (g.T.Taps.tap c.args.taps.now)
    (g.T.Taps.faults c.args.taps.now) in
    let ends : Ends q e old new =
    text-ends q (mirror-reads c.in-Mirror.hidden) (λ text. text.items) e old new
    (record {
      source = c.mirror_text.ensures.counts;
      sink = told.counts;
      taps = omega arith;
    })
    (plain-mirror c.in-Mirror.hidden old new) told.nothing
    (record { tap = λ j. refl; faults = refl }) c.mirror_text.result
    c.mirror_text.ensures.made c.mirror_text.ensures.stopped c.mirror_text.ensures.taken
    told.puts told.status told.quiet in
    record {
      usage = usage-is words q e old new c.in-Mirror.ensures ends;
      ends = ends-as words q e old new c.in-Mirror.ensures ends;
    }

pub returns-in-Wrong : goal.returns-in-Wrong
returns-in-Wrong g c =
    let words = c.args.words.now in
    let q = request.Wrong c.in-Wrong.hidden in
    let e = c.answer-in-Wrong.result in
    let told = c.answer-in-Wrong.ensures in
    let old = outside (g.S.Source.left c.args.source.now) (g.S.Source.faults c.args.source.now)
    (g.K.Sink.held c.args.sink.now) (g.K.Sink.faults c.args.sink.now)
    (g.T.Taps.tap c.args.taps.now) (g.T.Taps.faults c.args.taps.now) in
    let new = outside (g.S.Source.left c.wrong_text.new.source)
    (g.S.Source.faults c.wrong_text.new.source) (g.K.Sink.held c.answer-in-Wrong.new.sink)
    (g.K.Sink.faults c.answer-in-Wrong.new.sink) (g.T.Taps.tap c.args.taps.now)
    (g.T.Taps.faults c.args.taps.now) in
    let ends : Ends q e old new =
    text-ends q (wrong-reads c.in-Wrong.hidden) (λ text. text.items) e old new
    (record {
      source = c.wrong_text.ensures.counts;
      sink = told.counts;
      taps = omega arith;
    })
    (plain-wrong c.in-Wrong.hidden old new) told.nothing
    (record { tap = λ j. refl; faults = refl }) c.wrong_text.result
    c.wrong_text.ensures.made c.wrong_text.ensures.stopped c.wrong_text.ensures.taken
    told.puts told.status told.quiet in
    record {
      usage = usage-is words q e old new c.in-Wrong.ensures ends;
      ends = ends-as words q e old new c.in-Wrong.ensures ends;
    }

pub returns-in-Handle : goal.returns-in-Handle
returns-in-Handle g c =
    let words = c.args.words.now in
    let q = request.Handle c.in-Handle.id c.in-Handle.root in
    let e = c.answer-in-Handle.result in
    let told = c.answer-in-Handle.ensures in
    let ends = text-written q (handle-reads_nothing c.in-Handle.id c.in-Handle.root) (λ text. text.items) e
    (g.S.Source.left c.args.source.now) (g.S.Source.faults c.args.source.now)
    (g.K.Sink.held c.args.sink.now) (g.K.Sink.held c.answer-in-Handle.new.sink)
    (g.K.Sink.faults c.args.sink.now) (g.K.Sink.faults c.answer-in-Handle.new.sink)
    (g.T.Taps.tap c.args.taps.now) (g.T.Taps.faults c.args.taps.now) told.counts told.nothing
    c.handle_line.result c.handle_line.ensures.line c.handle_line.ensures.memory told.puts
    told.status told.quiet in
    record {
      usage = usage-is words q e _ _ c.in-Handle.ensures ends;
      ends = ends-as words q e _ _ c.in-Handle.ensures ends;
    }

pub returns-in-Make : goal.returns-in-Make
returns-in-Make g c =
    let words = c.args.words.now in
    let q = request.Make c.in-Make.number in
    let e = c.answer-in-Make.result in
    let told = c.answer-in-Make.ensures in
    let ends = text-written q (make-reads_nothing c.in-Make.number) (λ text. text.items) e
    (g.S.Source.left c.args.source.now) (g.S.Source.faults c.args.source.now)
    (g.K.Sink.held c.args.sink.now) (g.K.Sink.held c.answer-in-Make.new.sink)
    (g.K.Sink.faults c.args.sink.now) (g.K.Sink.faults c.answer-in-Make.new.sink)
    (g.T.Taps.tap c.args.taps.now) (g.T.Taps.faults c.args.taps.now) told.counts told.nothing
    c.make_text.result c.make_text.ensures.text c.make_text.ensures.memory told.puts
    told.status told.quiet in
    record {
      usage = usage-is words q e _ _ c.in-Make.ensures ends;
      ends = ends-as words q e _ _ c.in-Make.ensures ends;
    }

pub returns-in-Tally : goal.returns-in-Tally
returns-in-Tally g c =
    let words = c.args.words.now in
    let q = request.Tally c.in-Tally.number in
    let e = c.answer-in-Tally.result in
    let told = c.answer-in-Tally.ensures in
    let ends = text-written q (tally-reads_nothing c.in-Tally.number) (λ text. text.items) e
    (g.S.Source.left c.args.source.now) (g.S.Source.faults c.args.source.now)
    (g.K.Sink.held c.args.sink.now) (g.K.Sink.held c.answer-in-Tally.new.sink)
    (g.K.Sink.faults c.args.sink.now) (g.K.Sink.faults c.answer-in-Tally.new.sink)
    (g.T.Taps.tap c.args.taps.now) (g.T.Taps.faults c.args.taps.now) told.counts told.nothing
    c.tally_text.result c.tally_text.ensures.text c.tally_text.ensures.memory told.puts
    told.status told.quiet in
    record {
      usage = usage-is words q e _ _ c.in-Tally.ensures ends;
      ends = ends-as words q e _ _ c.in-Tally.ensures ends;
    }

pub returns-in-Lift : goal.returns-in-Lift
returns-in-Lift g c =
    let words = c.args.words.now in
    let e = c.answer-in-Lift.result in
    let told = c.answer-in-Lift.ensures in
    let old = outside (g.S.Source.left c.args.source.now) (g.S.Source.faults c.args.source.now)
    (g.K.Sink.held c.args.sink.now) (g.K.Sink.faults c.args.sink.now)
    (g.T.Taps.tap c.args.taps.now) (g.T.Taps.faults c.args.taps.now) in
    let new = outside (g.S.Source.left c.lift_text.new.source)
    (g.S.Source.faults c.lift_text.new.source) (g.K.Sink.held c.answer-in-Lift.new.sink)
    (g.K.Sink.faults c.answer-in-Lift.new.sink) (g.T.Taps.tap c.args.taps.now)
    (g.T.Taps.faults c.args.taps.now) in
    let ends : Ends request.Lift e old new =
    text-ends request.Lift lift-reads (λ text. text.items) e old new
    (record {
      source = c.lift_text.ensures.counts;
      sink = told.counts;
      taps = omega arith;
    })
    (plain-lift old new) told.nothing
    (record { tap = λ j. refl; faults = refl }) c.lift_text.result
    c.lift_text.ensures.made c.lift_text.ensures.stopped c.lift_text.ensures.taken
    told.puts told.status told.quiet in
    record {
      usage = usage-is words request.Lift e old new c.in-Lift.ensures ends;
      ends = ends-as words request.Lift e old new c.in-Lift.ensures ends;
    }

pub returns-in-Nothing : goal.returns-in-Nothing
returns-in-Nothing g c =
    let words = c.args.words.now in
    let e = c.without.result in
    let ends = usage-ends e (outside (g.S.Source.left c.args.source.now)
    (g.S.Source.faults c.args.source.now) (g.K.Sink.held c.args.sink.now)
    (g.K.Sink.faults c.args.sink.now) (g.T.Taps.tap c.args.taps.now)
    (g.T.Taps.faults c.args.taps.now)) c.without.ensures.status c.without.ensures.nothing in
    record {
      usage = usage-is words request.Nothing e _ _ c.in-Nothing.ensures ends;
      ends = ends-as words request.Nothing e _ _ c.in-Nothing.ensures ends;
    }
