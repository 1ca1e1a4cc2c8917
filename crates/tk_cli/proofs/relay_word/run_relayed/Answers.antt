-- How a run ends whose reads go by way of one server.
use Rattle.std.proofs.Common.{refl, arith}
use Rattle.tk_cli.specs.declared.request.Request.TheVariants as request
use Rattle.tk_script.specs.declared.form.Form.TheVariants as form
use Rattle.tk_cli.specs.Outside.{outside}
use Rattle.tk_cli.specs.Endings.{relayed_sight}
use Rattle.tk_cli.proofs.SerialLaws.{serial-ends, relay-runs}
use Rattle.tk_cli.proofs.WordLaws.{relay-reads, early, relay-due, has-book_of_keys}
use Rattle.tk_cli.proofs.relay_word.run_relayed.Goals as goal

pub returns-in-Err : goal.returns-in-Err
returns-in-Err g c =
    early request.Relay relay-reads c.without.result _ _
    (record { source = c.ready.ensures.counts; sink = omega arith; taps = omega arith })
    c.in-Err.status c.without.ensures.status c.without.ensures.nothing c.in-Err.ensures.taken
    (record { held = refl; faults = refl }) (record { tap = λ j. refl; faults = refl })
    (c.in-Err.ensures.stopped request.Relay refl)

pub relayed_by-left-requires-clause-keyed : goal.relayed_by-left-requires-clause-keyed
relayed_by-left-requires-clause-keyed g c =
    let left = g.S.Source.left c.args.source.now in
    let left' = g.S.Source.left c.ready.new.source in
    has-book_of_keys left left' c.in-Ok.input.0 c.in-Ok.input.1 c.in-Ok.ensures.ready

pub returns : goal.returns
returns g c =
    let left = g.S.Source.left c.args.source.now in
    let left' = g.S.Source.left c.ready.new.source in
    let script = c.in-Ok.input.0 in
    let book = c.in-Ok.input.1 in
    let ready = c.in-Ok.ensures.ready in
    let ran = c.relayed_by-left.ensures in
    let told = c.tell_left.ensures in
    let old = outside left (g.S.Source.faults c.args.source.now) (g.K.Sink.held c.args.sink.now)
    (g.K.Sink.faults c.args.sink.now) (g.T.Taps.tap c.args.taps.now)
    (g.T.Taps.faults c.args.taps.now) in
    let new = outside left' (g.S.Source.faults c.ready.new.source)
    (g.K.Sink.held c.tell_left.new.sink) (g.K.Sink.faults c.tell_left.new.sink)
    (g.T.Taps.tap c.relayed_by-left.new.taps) (g.T.Taps.faults c.relayed_by-left.new.taps) in
    serial-ends request.Relay relayed_sight relay-runs c.tell_left.result old new
    (record {
      source = c.ready.ensures.counts;
      sink = told.counts;
      taps = ran.counts;
    })
    c.ends.ensures.outcome c.in-Ok.input c.in-Ok.ensures.taken form.Relay script book ready
    (relay-due form.Relay left left' script book ready refl) c.relayed_by-left.result
    (record { left_by = ran.left; ok = ran.ok; err = ran.err; others = ran.others })
    (record {
      puts = told.puts;
      handed = told.handed;
      status = told.status;
      nothing = told.nothing;
      quiet = told.quiet;
    })
    ran.rose
