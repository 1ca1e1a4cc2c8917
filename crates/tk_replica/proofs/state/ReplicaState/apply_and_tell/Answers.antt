-- A write goes into what the table and the window stand for, and a mark makes the next epoch.
use Rattle.std.proofs.Common.{◌∙◌, ap, sym, subst, ◌++◌, ◌∷◌, []}
use Rattle.tk_replica.specs.Keeping.{numbers_of, numbers_with}
use Rattle.tk_replica.specs.Replica.{StandsFor}
use Rattle.tk_replica.proofs.KeptNumbers.{numbers-marked}
use Rattle.tk_replica.proofs.Puts.{put-write, put-mark}
use Rattle.tk_replica.proofs.Standing.{stands-write, stands-mark}
use Rattle.tk_replica.proofs.state.ReplicaState.apply_and_tell.Goals as goal

pub returns-in-Write-clause-stands : goal.returns-in-Write-clause-stands
returns-in-Write-clause-stands c = λ shape E is.
    let placed = c.args.placed.now in
    subst (StandsFor shape (E ++ placed ∷ [])) (sym c.put.ensures.rest)
    (stands-write shape E c.args.self.now c.put.new.self.table placed c.in-Write.write is
    c.requires c.in-Write.is c.put.ensures.table_shape c.put.ensures.table)

pub returns-in_ok-mark-in-Mark-clause-stands : goal.returns-in_ok-mark-in-Mark-clause-stands
returns-in_ok-mark-in-Mark-clause-stands c = λ shape E is.
    let placed = c.args.placed.now in
    let made = c.in_ok-mark-in-Mark.ensures.epoch in
    subst (StandsFor shape (E ++ placed ∷ [])) (sym made.2)
    (stands-mark shape E c.args.self.now placed c.in-Mark.number made.0 is c.requires
    c.in-Mark.is made.1)

pub returns-in-Write-clause-numbers : goal.returns-in-Write-clause-numbers
returns-in-Write-clause-numbers c =
    ap numbers_of c.put.ensures.rest
    ∙ ap (numbers_with (numbers_of c.args.self.now)) (sym c.in-Write.is)

pub returns-in_ok-mark-in-Mark-clause-numbers : goal.returns-in_ok-mark-in-Mark-clause-numbers
returns-in_ok-mark-in-Mark-clause-numbers c =
    let made = c.in_ok-mark-in-Mark.ensures.epoch in
    let placed = c.args.placed.now in
    numbers-marked c.args.self.now _ placed.entry placed.position c.in-Mark.number made.0 c.in-Mark.is
    made.1.number_is made.2

pub returns-in-Write-clause-put : goal.returns-in-Write-clause-put
returns-in-Write-clause-put c = λ shape E is.
    put-write shape E c.args.self.now c.args.placed.now c.in-Write.write c.put.result is
    c.in-Write.is c.put.ensures.displaced

pub returns-in_ok-mark-in-Mark-clause-put : goal.returns-in_ok-mark-in-Mark-clause-put
returns-in_ok-mark-in-Mark-clause-put c = λ shape E is.
    put-mark shape E c.args.placed.now c.in-Mark.number c.in-Mark.is
