-- A shelf gives back what lies on it last, the checkpoint of what was written.
use Rattle.std.proofs.Common.{◌*◌, ℕ, subst, sym}
use Rattle.tk_io.proofs.Offers.{fronts-of_all, fronts-none, on_err}
use Rattle.tk_shape.specs.declared.shape.Shape.{Shape}
use Rattle.tk_schedule.specs.Schedule.{IsLegal, serial_history}
use Rattle.tk_schedule.specs.declared.history.History.{History}
use Rattle.tk_words.specs.Words.{IsBook, words_of}
use Rattle.tk_report.specs.Exchange.{exchange, bytes_of}
use Rattle.tk_report.specs.Outcomes.{HasEnded, IsLeftBy}
use Rattle.tk_report.specs.Turns.{placed_before}
use Rattle.tk_run.specs.Keeping.{IsAccepted, saved_before}
use Rattle.tk_run.proofs.EndLaws.{own, own-given, own-gain, own-fronts, own-end}
use Rattle.tk_run.proofs.KeepingLaws.{last-given}
use Rattle.tk_run.proofs.serially.resumed_on.Goals as goal

pub returns-in_err-history-clause-err : goal.returns-in_err-history-clause-err
returns-in_err-history-clause-err g c =
    let S = c.args.script.now in
    let book = g.D.Draws.book c.args.draws.now in
    on_err _ c.from_residual.result
    (fronts-none S.shape.servers (λ (j : ℕ). bytes_of (exchange S book (serial_history S.shape) j))
    (g.T.Taps.tap c.args.taps.now))

pub returns-in-Err-clause-err : goal.returns-in-Err-clause-err
returns-in-Err-clause-err g c =
    let S = c.args.script.now in
    let book = g.D.Draws.book c.args.draws.now in
    let H = serial_history S.shape in
    let due = c.args.epoch * S.shape.ticks in
    let legal = subst (IsLegal S.shape) c.in_ok-history.ensures.serial c.in_ok-history.ensures.legal in
    let world = g.world in
    let laws = g.met.D.Draws world.𝓛 world.𝓜 world.𝓡 ((λ s x. x), (λ x. x), (λ x. x), λ x. x) in
    let serves =
    subst (λ (shape : Shape). IsBook shape book) c.requires.one_shape (laws.serves c.args.draws.now)
    in
    let old = g.T.Taps.tap c.args.taps.now in
    let new = g.T.Taps.tap c.resumed_by.new.taps in
    own-fronts S book H due old new serves legal
    (c.in-Err.ensures.err (own S book H due) (λ low kept. own-given S book H due _
    (λ j. last-given _ _ (saved_before S book H due) kept)))

pub returns-in_err-of-in-Ok-clause-err : goal.returns-in_err-of-in-Ok-clause-err
returns-in_err-of-in-Ok-clause-err g c =
    let S = c.args.script.now in
    let book = g.D.Draws.book c.args.draws.now in
    let H = serial_history S.shape in
    let due = c.args.epoch * S.shape.ticks in
    let legal = subst (IsLegal S.shape) c.in_ok-history.ensures.serial c.in_ok-history.ensures.legal in
    let world = g.world in
    let laws = g.met.D.Draws world.𝓛 world.𝓜 world.𝓡 ((λ s x. x), (λ x. x), (λ x. x), λ x. x) in
    let serves =
    subst (λ (shape : Shape). IsBook shape book) c.requires.one_shape (laws.serves c.args.draws.now)
    in
    let old = g.T.Taps.tap c.args.taps.now in
    let new = g.T.Taps.tap c.resumed_by.new.taps in
    on_err _ c.from_residual-in_err-of-in-Ok.result
    (fronts-of_all S.shape.servers (λ (j : ℕ). bytes_of (exchange S book H j)) old new
    (own-gain S book H due old new serves legal
    (c.in-Ok.ensures.ok (own S book H due) (λ low kept. own-given S book H due _
    (λ j. last-given _ _ (saved_before S book H due) kept)))))

pub run_error-requires : goal.run_error-requires
run_error-requires g c = λ is.
    let S = c.args.script.now in
    let book = g.D.Draws.book c.args.draws.now in
    let H = serial_history S.shape in
    let due = c.args.epoch * S.shape.ticks in
    let has = c.in-Err.ensures.refused is in
    has.one.refuses
    (subst (IsAccepted S.shape (placed_before S (words_of S.shape book) H due))
    (sym (last-given _ _ (saved_before S book H due) has.kept)) has.own)

pub of-requires : goal.of-requires
of-requires g c =
    let S = c.args.script.now in
    let book = g.D.Draws.book c.args.draws.now in
    let H = serial_history S.shape in
    let due = c.args.epoch * S.shape.ticks in
    let legal = subst (IsLegal S.shape) c.in_ok-history.ensures.serial c.in_ok-history.ensures.legal in
    let world = g.world in
    let laws = g.met.D.Draws world.𝓛 world.𝓜 world.𝓡 ((λ s x. x), (λ x. x), (λ x. x), λ x. x) in
    let serves =
    subst (λ (shape : Shape). IsBook shape book) c.requires.one_shape (laws.serves c.args.draws.now)
    in (
      words_of S.shape book,
      subst (λ (h : History). HasEnded S (words_of S.shape book) h c.in-Ok.end.clients.items
          c.in-Ok.end.displaced) (sym c.in_ok-history.ensures.serial)
          (own-end S book H due c.in-Ok.end serves legal
          (c.in-Ok.ensures.left (own S book H due) (λ low kept. own-given S book H due _
          (λ j. last-given _ _ (saved_before S book H due) kept)))),
    )

pub returns-in_ok-of-in-Ok-clause-left : goal.returns-in_ok-of-in-Ok-clause-left
returns-in_ok-of-in-Ok-clause-left g c =
    let S = c.args.script.now in
    let book = g.D.Draws.book c.args.draws.now in
    let H = serial_history S.shape in
    let due = c.args.epoch * S.shape.ticks in
    let legal = subst (IsLegal S.shape) c.in_ok-history.ensures.serial c.in_ok-history.ensures.legal in
    let world = g.world in
    let laws = g.met.D.Draws world.𝓛 world.𝓜 world.𝓡 ((λ s x. x), (λ x. x), (λ x. x), λ x. x) in
    let serves =
    subst (λ (shape : Shape). IsBook shape book) c.requires.one_shape (laws.serves c.args.draws.now)
    in
    subst (λ (h : History). IsLeftBy S (words_of S.shape book) h c.in_ok-of-in-Ok.field-0) c.in_ok-history.ensures.serial
    (c.in_ok-of-in-Ok.ensures (words_of S.shape book)
    (subst (λ (h : History). HasEnded S (words_of S.shape book) h c.in-Ok.end.clients.items
    c.in-Ok.end.displaced) (sym c.in_ok-history.ensures.serial)
    (own-end S book H due c.in-Ok.end serves legal
    (c.in-Ok.ensures.left (own S book H due) (λ low kept. own-given S book H due _
    (λ j. last-given _ _ (saved_before S book H due) kept))))))

pub returns-in_ok-of-in-Ok-clause-ok : goal.returns-in_ok-of-in-Ok-clause-ok
returns-in_ok-of-in-Ok-clause-ok g c =
    let S = c.args.script.now in
    let book = g.D.Draws.book c.args.draws.now in
    let H = serial_history S.shape in
    let due = c.args.epoch * S.shape.ticks in
    let legal = subst (IsLegal S.shape) c.in_ok-history.ensures.serial c.in_ok-history.ensures.legal in
    let world = g.world in
    let laws = g.met.D.Draws world.𝓛 world.𝓜 world.𝓡 ((λ s x. x), (λ x. x), (λ x. x), λ x. x) in
    let serves =
    subst (λ (shape : Shape). IsBook shape book) c.requires.one_shape (laws.serves c.args.draws.now)
    in
    let old = g.T.Taps.tap c.args.taps.now in
    let new = g.T.Taps.tap c.resumed_by.new.taps in
    own-gain S book H due old new serves legal
    (c.in-Ok.ensures.ok (own S book H due) (λ low kept. own-given S book H due _
    (λ j. last-given _ _ (saved_before S book H due) kept)))
