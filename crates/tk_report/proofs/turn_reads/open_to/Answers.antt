-- The epoch that the history gives is the last or the one before it.
use Rattle.std.proofs.Common.{◌≤◌, ◌+◌, ℕ, subst, arith}
use Rattle.tk_shape.specs.Lengths.{turn_count}
use Rattle.tk_schedule.specs.Schedule.{phases_over}
use Rattle.tk_words.specs.Words.{words_of}
use Rattle.tk_report.specs.Entries.{write_at}
use Rattle.tk_report.specs.Turns.{placed_before}
use Rattle.tk_report.proofs.AgreementLaws.{epoch-made}
use Rattle.tk_report.proofs.EpochLaws.{marks-before}
use Rattle.tk_report.proofs.ReadingLaws.{IsHeld, held-of, read-late}
use Rattle.tk_report.proofs.turn_reads.open_to.Goals as goal

pub epoch-requires-2-clause-low : goal.epoch-requires-2-clause-low
epoch-requires-2-clause-low g c =
    let plan = c.args.plan.now in
    let S = plan.script.now in
    let write = write_at S (words_of S.shape (g.D.Draws.book plan.draws.now)) in
    let H = plan.history.now in
    let next = c.args.turn + 1 in
    let late =
    read-late S.shape H c.args.turn c.args.number plan.legal c.requires.turn_in
    c.requires.number_in
    in
    let over : next ≤ turn_count S.shape = omega (arith, c.requires.turn_in) in
    let marks = marks-before S.shape write H plan.legal next over in
    omega (arith, c.epoch.ensures, late, marks, c.requires.ledger.last)

pub epoch-requires-2-clause-high : goal.epoch-requires-2-clause-high
epoch-requires-2-clause-high g c =
    let plan = c.args.plan.now in
    let S = plan.script.now in
    let write = write_at S (words_of S.shape (g.D.Draws.book plan.draws.now)) in
    let H = plan.history.now in
    let next = c.args.turn + 1 in
    let made = epoch-made S.shape H c.args.turn c.args.number plan.legal c.requires.turn_in in
    let over : next ≤ turn_count S.shape = omega (arith, c.requires.turn_in) in
    let marks = marks-before S.shape write H plan.legal next over in
    omega (arith, c.epoch.ensures, made, marks, c.requires.ledger.last)

pub returns : goal.returns
returns g c =
    let plan = c.args.plan.now in
    let S = plan.script.now in
    let book = g.D.Draws.book plan.draws.now in
    let words = words_of S.shape book in
    let H = plan.history.now in
    let turn = c.args.turn in
    let due = c.epoch.result in
    let made = epoch-made S.shape H turn c.args.number plan.legal c.requires.turn_in in
    let within : due ≤ phases_over S.shape (turn + 1) = omega (arith, c.epoch.ensures, made) in
    subst (λ (e : ℕ). IsHeld S book H e c.epoch-2.result.now) c.epoch.ensures
    (held-of S book H turn due c.epoch-2.result.now plan.legal c.requires.turn_in within
    (c.epoch-2.ensures S.shape (placed_before S words H (turn + 1)) c.requires.ledger))
