-- Nothing is due, so that the run is that of servers that hold what was written.
use Rattle.std.proofs.Common.{◌+◌, ℕ, arith, subst}
use Rattle.tk_io.specs.Tapped.{TapsGain, TapsGainFronts}
use Rattle.tk_io.proofs.Offers.{fronts-of_all, fronts-none, on_err}
use Rattle.tk_shape.specs.declared.shape.Shape.{Shape}
use Rattle.tk_shape.specs.Lengths.{turn_count}
use Rattle.tk_schedule.specs.Schedule.{serial_history}
use Rattle.tk_schedule.specs.declared.history.History.{History}
use Rattle.tk_words.specs.Words.{IsBook, words_of}
use Rattle.tk_report.specs.Exchange.{exchange, bytes_of}
use Rattle.tk_report.specs.Outcomes.{IsLeftBy}
use Rattle.tk_run.proofs.EndLaws.{own, own-gain, own-fronts, own-end}
use Rattle.tk_run.proofs.serially.serial.Goals as goal

pub returns-in_err-history-clause-err : goal.returns-in_err-history-clause-err
returns-in_err-history-clause-err g c =
    let S = c.args.script.now in
    let book = g.D.Draws.book c.args.draws.now in
    on_err _ c.from_residual.result
    (fronts-none S.shape.servers (λ (j : ℕ). bytes_of (exchange S book (serial_history S.shape) j))
    (g.T.Taps.tap c.args.taps.now))

pub returns-in-Err-clause-err : goal.returns-in-Err-clause-err
returns-in-Err-clause-err g c =
    let S = c.args.script.now in
    let book = g.D.Draws.book c.args.draws.now in
    let H = c.in_ok-history.history in
    let due = turn_count S.shape + 1 in
    let legal = c.in_ok-history.ensures.legal in
    let world = g.world in
    let laws = g.met.D.Draws world.𝓛 world.𝓜 world.𝓡 ((λ s x. x), (λ x. x), (λ x. x), λ x. x) in
    let serves =
    subst (λ (shape : Shape). IsBook shape book) c.requires.one_shape (laws.serves c.args.draws.now)
    in
    let old = g.T.Taps.tap c.args.taps.now in
    let new = g.T.Taps.tap c.run_turns.new.taps in
    subst (λ (h : History). TapsGainFronts S.shape.servers (λ (j : ℕ). bytes_of (exchange S book h j)) old new)
    c.in_ok-history.ensures.serial
    (own-fronts S book H due old new serves legal
    (c.in-Err.ensures.err (own S book H due) (λ low kept. absurd (omega (arith, low)))))

pub returns-in_err-of-in-Ok-clause-err : goal.returns-in_err-of-in-Ok-clause-err
returns-in_err-of-in-Ok-clause-err g c =
    let S = c.args.script.now in
    let book = g.D.Draws.book c.args.draws.now in
    let H = c.in_ok-history.history in
    let due = turn_count S.shape + 1 in
    let legal = c.in_ok-history.ensures.legal in
    let world = g.world in
    let laws = g.met.D.Draws world.𝓛 world.𝓜 world.𝓡 ((λ s x. x), (λ x. x), (λ x. x), λ x. x) in
    let serves =
    subst (λ (shape : Shape). IsBook shape book) c.requires.one_shape (laws.serves c.args.draws.now)
    in
    let old = g.T.Taps.tap c.args.taps.now in
    let new = g.T.Taps.tap c.run_turns.new.taps in
    on_err _ c.from_residual-in_err-of-in-Ok.result
    (fronts-of_all S.shape.servers (λ (j : ℕ). bytes_of (exchange S book (serial_history S.shape) j)) old new
    (subst (λ (h : History). TapsGain S.shape.servers (λ (j : ℕ). bytes_of (exchange S book h j)) old new)
    c.in_ok-history.ensures.serial
    (own-gain S book H due old new serves legal
    (c.in-Ok.ensures.ok (own S book H due) (λ low kept. absurd (omega (arith, low)))))))

pub run_error-requires : goal.run_error-requires
run_error-requires g c = λ is. omega (arith, (c.in-Err.ensures.refused is).due_in)

pub of-requires : goal.of-requires
of-requires g c =
    let S = c.args.script.now in
    let book = g.D.Draws.book c.args.draws.now in
    let H = c.in_ok-history.history in
    let due = turn_count S.shape + 1 in
    let legal = c.in_ok-history.ensures.legal in
    let world = g.world in
    let laws = g.met.D.Draws world.𝓛 world.𝓜 world.𝓡 ((λ s x. x), (λ x. x), (λ x. x), λ x. x) in
    let serves =
    subst (λ (shape : Shape). IsBook shape book) c.requires.one_shape (laws.serves c.args.draws.now)
    in (
      words_of S.shape book,
      own-end S book H due c.in-Ok.end serves legal
          (c.in-Ok.ensures.left (own S book H due) (λ low kept. absurd (omega (arith, low)))),
    )

pub returns-in_ok-of-in-Ok-clause-left : goal.returns-in_ok-of-in-Ok-clause-left
returns-in_ok-of-in-Ok-clause-left g c =
    let S = c.args.script.now in
    let book = g.D.Draws.book c.args.draws.now in
    let H = c.in_ok-history.history in
    let due = turn_count S.shape + 1 in
    let legal = c.in_ok-history.ensures.legal in
    let world = g.world in
    let laws = g.met.D.Draws world.𝓛 world.𝓜 world.𝓡 ((λ s x. x), (λ x. x), (λ x. x), λ x. x) in
    let serves =
    subst (λ (shape : Shape). IsBook shape book) c.requires.one_shape (laws.serves c.args.draws.now)
    in
    subst (λ (h : History). IsLeftBy S (words_of S.shape book) h c.in_ok-of-in-Ok.field-0) c.in_ok-history.ensures.serial
    (c.in_ok-of-in-Ok.ensures (words_of S.shape book) (own-end S book H due c.in-Ok.end serves legal
    (c.in-Ok.ensures.left (own S book H due) (λ low kept. absurd (omega (arith, low))))))

pub returns-in_ok-of-in-Ok-clause-ok : goal.returns-in_ok-of-in-Ok-clause-ok
returns-in_ok-of-in-Ok-clause-ok g c =
    let S = c.args.script.now in
    let book = g.D.Draws.book c.args.draws.now in
    let H = c.in_ok-history.history in
    let due = turn_count S.shape + 1 in
    let legal = c.in_ok-history.ensures.legal in
    let world = g.world in
    let laws = g.met.D.Draws world.𝓛 world.𝓜 world.𝓡 ((λ s x. x), (λ x. x), (λ x. x), λ x. x) in
    let serves =
    subst (λ (shape : Shape). IsBook shape book) c.requires.one_shape (laws.serves c.args.draws.now)
    in
    let old = g.T.Taps.tap c.args.taps.now in
    let new = g.T.Taps.tap c.run_turns.new.taps in
    subst (λ (h : History). TapsGain S.shape.servers (λ (j : ℕ). bytes_of (exchange S book h j)) old new)
    c.in_ok-history.ensures.serial
    (own-gain S book H due old new serves legal
    (c.in-Ok.ensures.ok (own S book H due) (λ low kept. absurd (omega (arith, low)))))
