-- The log is another client's, or the text is too long.
use Rattle.std.proofs.Common.{◌≡◌, sym, ◌∙◌, arith}
use Rattle.std.specs.Prelude.{position, None}
use Rattle.tk_client.proofs.LogPlaces.{is_log, written-at, not_written-at}
use Rattle.tk_client.proofs.Keeping.{fault-other, fault-mine, fault-long}
use Rattle.tk_client.proofs.outbox.place_with_room.Goals as goal

pub returns-in_default-clause-fault : goal.returns-in_default-clause-fault
returns-in_default-clause-fault c =
    let logs = c.args.logs.now in
    let none : position (is_log c.args.log) logs ≡ None = sym c.place_of.ensures ∙ c.in_default.is in
    fault-other c.args.shape.now logs c.args.log c.args.text.now (not_written-at c.args.log logs none)

pub returns-then-text-room-clause-fault : goal.returns-then-text-room-clause-fault
returns-then-text-room-clause-fault c =
    let logs = c.args.logs.now in
    let mine = written-at c.args.log logs c.in-Some.place (sym c.in-Some.is ∙ c.place_of.ensures) in
    fault-mine c.args.shape.now logs c.args.log c.args.text.now mine
    ∙ fault-long c.args.shape.now c.args.text.now (omega (arith, c.if-text-room.true))
