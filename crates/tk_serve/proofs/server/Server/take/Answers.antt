-- What a frame is found to be says which step it is.
use Rattle.std.proofs.Common.{subst}
use Rattle.std.proofs.lemmas.Result.{on_ok_weaker}
use Rattle.tk_serve.specs.Checked.{IsChecked}
use Rattle.tk_serve.specs.Seats.{with_write, with_read}
use Rattle.tk_serve.proofs.StepLaws.{told_step, refused_step, step-stands, step-told}
use Rattle.tk_serve.proofs.StepLaws.{checked_write-step, checked_read-step, checked_refused-step}
use Rattle.tk_serve.proofs.server.Server.take.Goals as goal

pub returns-in-Write-clause-stands : goal.returns-in-Write-clause-stands
returns-in-Write-clause-stands c = λ shape seats is.
    let s = c.args.self.now in
    let w = c.in-Write.write in
    let checked = subst (IsChecked s.shape c.due-due.result c.args.frame.now) c.in-Write.is c.in_ok-write.ensures in
    let known =
    checked_write-step shape seats s c.args.client c.args.frame.now c.due-due.result is c.due-due.ensures
    c.requires.client w checked
    in
    on_ok_weaker c.take_write.result
    (step-stands shape seats c.args.client c.args.frame.now (told_step shape seats (with_write seats w.client w)) known
    c.take_write.new.self)
    (c.take_write.ensures.stands shape seats is)

pub returns-in-Write-clause-told : goal.returns-in-Write-clause-told
returns-in-Write-clause-told c = λ shape seats is.
    let s = c.args.self.now in
    let w = c.in-Write.write in
    let checked = subst (IsChecked s.shape c.due-due.result c.args.frame.now) c.in-Write.is c.in_ok-write.ensures in
    let known =
    checked_write-step shape seats s c.args.client c.args.frame.now c.due-due.result is c.due-due.ensures
    c.requires.client w checked
    in
    on_ok_weaker c.take_write.result
    (step-told shape seats c.args.client c.args.frame.now (told_step shape seats (with_write seats w.client w)) known
    c.args.out.now.items c.take_write.new.out.items)
    (c.take_write.ensures.told shape seats is)

pub returns-in-Read-clause-stands : goal.returns-in-Read-clause-stands
returns-in-Read-clause-stands c = λ shape seats is.
    let s = c.args.self.now in
    let r = c.in-Read.read in
    let checked = subst (IsChecked s.shape c.due-due.result c.args.frame.now) c.in-Read.is c.in_ok-write.ensures in
    let known =
    checked_read-step shape seats s c.args.client c.args.frame.now c.due-due.result is c.due-due.ensures
    c.requires.client r checked
    in
    on_ok_weaker c.take_read.result
    (step-stands shape seats c.args.client c.args.frame.now (told_step shape seats (with_read seats r.client r)) known
    c.take_read.new.self)
    (c.take_read.ensures.stands shape seats is)

pub returns-in-Read-clause-told : goal.returns-in-Read-clause-told
returns-in-Read-clause-told c = λ shape seats is.
    let s = c.args.self.now in
    let r = c.in-Read.read in
    let checked = subst (IsChecked s.shape c.due-due.result c.args.frame.now) c.in-Read.is c.in_ok-write.ensures in
    let known =
    checked_read-step shape seats s c.args.client c.args.frame.now c.due-due.result is c.due-due.ensures
    c.requires.client r checked
    in
    on_ok_weaker c.take_read.result
    (step-told shape seats c.args.client c.args.frame.now (told_step shape seats (with_read seats r.client r)) known
    c.args.out.now.items c.take_read.new.out.items)
    (c.take_read.ensures.told shape seats is)

pub returns-in-Refused-clause-stands : goal.returns-in-Refused-clause-stands
returns-in-Refused-clause-stands c = λ shape seats is.
    let s = c.args.self.now in
    let cause = c.in-Refused.cause in
    let checked = subst (IsChecked s.shape c.due-due.result c.args.frame.now) c.in-Refused.is c.in_ok-write.ensures in
    let known =
    checked_refused-step shape seats s c.args.client c.args.frame.now c.due-due.result is c.due-due.ensures
    c.requires.client cause checked
    in
    on_ok_weaker c.refuse.result
    (λ _. step-stands shape seats c.args.client c.args.frame.now (refused_step seats c.args.client cause) known s is)
    c.refuse.ensures

pub returns-in-Refused-clause-told : goal.returns-in-Refused-clause-told
returns-in-Refused-clause-told c = λ shape seats is.
    let s = c.args.self.now in
    let cause = c.in-Refused.cause in
    let checked = subst (IsChecked s.shape c.due-due.result c.args.frame.now) c.in-Refused.is c.in_ok-write.ensures in
    let known =
    checked_refused-step shape seats s c.args.client c.args.frame.now c.due-due.result is c.due-due.ensures
    c.requires.client cause checked
    in
    on_ok_weaker c.refuse.result
    (step-told shape seats c.args.client c.args.frame.now (refused_step seats c.args.client cause) known
    c.args.out.now.items c.refuse.new.out.items)
    c.refuse.ensures
