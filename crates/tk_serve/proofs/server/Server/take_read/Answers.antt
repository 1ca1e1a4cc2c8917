-- A read whose epoch is there is told its reply, and one that waits nothing.
use Rattle.std.proofs.Common.{◌≡◌, ◌+◌, ◌∙◌, ◌++◌, ◌∷◌, [], refl, ap, sym, arith, append-nil}
use Rattle.std.specs.Prelude.{slice_set}
use Rattle.std.proofs.lemmas.List.{get_or_read}
use Rattle.std.proofs.lemmas.Result.{on_ok_weaker}
use Rattle.tk_schedule.specs.Schedule.{phases_over}
use Rattle.tk_serve.specs.Seats.{with_read, turns_written, newest}
use Rattle.tk_serve.specs.Desks.{DeskView, desk, empty_desk}
use Rattle.tk_serve.specs.Stands.{desk_at}
use Rattle.tk_serve.proofs.SeatLaws.{read-turns}
use Rattle.tk_serve.proofs.StandsLaws.{stands-with_read, stands-with_waiting}
use Rattle.tk_serve.proofs.TakeLaws.{stands-as}
use Rattle.tk_serve.proofs.GainLaws.{read-tells, read-waits}
use Rattle.tk_serve.proofs.TellLaws.{read-low, read-next, read-there, read-past}
use Rattle.tk_serve.proofs.server.Server.take_read.Goals as goal

pub returns-then-read-last-clause-told : goal.returns-then-read-last-clause-told
returns-then-read-last-clause-told c = λ shape seats is.
    let s = c.args.self.now in
    let r = c.args.read in
    let last = c.last.ensures in
    let past = read-past shape seats s is r c.requires.due (omega (arith, last)) in
    on_ok_weaker c.put_read.result
    (λ _. sym (ap (λ ps. c.args.out.now.items ++ ps)
    (read-waits shape seats r.client r is.are (read-low shape seats s is r c.requires.due) past)
    ∙ append-nil c.args.out.now.items))
    c.put_read.ensures

pub returns-clause-told : goal.returns-clause-told
returns-clause-told c = λ shape seats is.
    let s = c.args.self.now in
    let r = c.args.read in
    let last = c.last.ensures in
    let there = read-there shape seats s is r c.requires.due (omega (arith, last)) in
    c.in_ok-tell_read.ensures shape seats is
    ∙ ap (λ ps. c.args.out.now.items ++ ps)
    (sym (read-tells shape seats r.client r is.are (read-low shape seats s is r c.requires.due) there))

pub returns-then-read-last-clause-stands : goal.returns-then-read-last-clause-stands
returns-then-read-last-clause-stands c = λ shape seats is.
    let s = c.args.self.now in
    let r = c.args.read in
    let g = turns_written shape seats in
    let last = c.last.ensures in
    let low = read-low shape seats s is r c.requires.due in
    let past = read-past shape seats s is r c.requires.due (omega (arith, last)) in
    let turns = read-turns seats r.client low shape r in
    let at : c.index_mut.result.now ≡ desk_at s r.client =
    get_or_read s.desks.items _ _ c.requires.due.low c.index_mut.ensures.value empty_desk
    in
    on_ok_weaker c.put_read.result
    (λ put. stands-as shape (with_read seats r.client r) g (newest shape seats)
    (turns_written shape (with_read seats r.client r)) (newest shape (with_read seats r.client r)) _
    (sym turns) (ap (phases_over shape) (sym turns))
    (stands-with_waiting shape seats g (newest shape seats) s is r.client r _ low past
    (read-next shape seats s is r c.requires.due) refl refl refl
    (ap (slice_set s.desks.items r.client)
    (put ∙ ap (λ (d : DeskView). desk d.waiting (d.asking ++ r ∷ []) (d.asked + 1)) at))))
    c.put_read.ensures

pub returns-clause-stands : goal.returns-clause-stands
returns-clause-stands c = λ shape seats is.
    let s = c.args.self.now in
    let r = c.args.read in
    let g = turns_written shape seats in
    let last = c.last.ensures in
    let low = read-low shape seats s is r c.requires.due in
    let there = read-there shape seats s is r c.requires.due (omega (arith, last)) in
    let turns = read-turns seats r.client low shape r in
    let at : c.index_mut-2.result.now ≡ desk_at s r.client =
    get_or_read s.desks.items _ _ c.requires.due.low c.index_mut-2.ensures.value empty_desk
    in
    stands-as shape (with_read seats r.client r) g (newest shape seats)
    (turns_written shape (with_read seats r.client r)) (newest shape (with_read seats r.client r)) _
    (sym turns) (ap (phases_over shape) (sym turns))
    (c.release.ensures.stands shape (with_read seats r.client r) g (newest shape seats)
    (stands-with_read shape seats g (newest shape seats) s is r.client r _ low there
    (read-next shape seats s is r c.requires.due) refl refl refl
    (ap (slice_set s.desks.items r.client)
    (c.count_read.ensures ∙ ap (λ (d : DeskView). desk d.waiting d.asking (d.asked + 1)) at))))
