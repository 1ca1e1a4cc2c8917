-- The write is put on its client's desk, and a turn that all have written then is applied.
use Rattle.std.proofs.Common.{◌≡◌, ◌+◌, ◌∙◌, ◌++◌, ◌∷◌, [], refl, ap, ap₂, sym, arith, true, false, append-nil}
use Rattle.std.specs.Prelude.{slice_set}
use Rattle.std.proofs.lemmas.List.{get_or_read}
use Rattle.tk_schedule.specs.Schedule.{is_closing}
use Rattle.tk_serve.specs.Seats.{with_write, turns_written, newest}
use Rattle.tk_serve.specs.Desks.{DeskView, desk, empty_desk}
use Rattle.tk_serve.specs.Stands.{desk_at}
use Rattle.tk_serve.proofs.TakeLaws.{write-put, write-completes, write-same, write-waits, write-tells-no_more}
use Rattle.tk_serve.proofs.TakeLaws.{write-open, write-open-tells, write-phase, write-closed, write-closed-tells}
use Rattle.tk_serve.proofs.server.Server.take_write.Goals as goal

pub apply_turn-requires : goal.apply_turn-requires
apply_turn-requires c =
    let s = c.args.self.now in
    let w = c.args.write in
    let due = c.requires.due in
    let shape = c.requires.serves.shape_of in
    let seats = c.requires.serves.seats_of in
    let is = c.requires.serves.stands in
    let g = turns_written shape seats in
    let n = newest shape seats in
    let next = with_write seats w.client w in
    let at : c.index_mut.result.now ≡ desk_at s w.client =
    get_or_read s.desks.items _ _ due.low c.index_mut.ensures.value empty_desk
    in
    let put =
    ap (slice_set s.desks.items w.client)
    (c.in_ok-put_write.ensures ∙ ap (λ (d : DeskView). desk (d.waiting ++ w ∷ []) d.asking d.asked) at)
    in
    let yes : c.is_complete.result ≡ true = cc in
    let one = write-completes shape seats s is w due _ put (sym c.is_complete.ensures ∙ yes) in
    record {
      shape_of = shape;
      seats_of = next;
      turn_of = g;
      epoch_of = n;
      stands = write-put shape seats s is w due _ refl refl refl put;
      written = omega (arith, one);
    }

pub returns-then-not-is_complete-clause-stands : goal.returns-then-not-is_complete-clause-stands
returns-then-not-is_complete-clause-stands c = λ shape seats is.
    let s = c.args.self.now in
    let w = c.args.write in
    let due = c.requires.due in
    let at : c.index_mut.result.now ≡ desk_at s w.client =
    get_or_read s.desks.items _ _ due.low c.index_mut.ensures.value empty_desk
    in
    let put =
    ap (slice_set s.desks.items w.client)
    (c.in_ok-put_write.ensures ∙ ap (λ (d : DeskView). desk (d.waiting ++ w ∷ []) d.asking d.asked) at)
    in
    let no : c.is_complete.result ≡ false = cc in
    let same = write-same shape seats s is w due _ put (sym c.is_complete.ensures ∙ no) in
    write-waits shape seats s is w due _ same (write-put shape seats s is w due _ refl refl refl put)

pub returns-then-not-is_complete-clause-told : goal.returns-then-not-is_complete-clause-told
returns-then-not-is_complete-clause-told c = λ shape seats is.
    let s = c.args.self.now in
    let w = c.args.write in
    let due = c.requires.due in
    let out = c.args.out.now.items in
    let at : c.index_mut.result.now ≡ desk_at s w.client =
    get_or_read s.desks.items _ _ due.low c.index_mut.ensures.value empty_desk
    in
    let put =
    ap (slice_set s.desks.items w.client)
    (c.in_ok-put_write.ensures ∙ ap (λ (d : DeskView). desk (d.waiting ++ w ∷ []) d.asking d.asked) at)
    in
    let no : c.is_complete.result ≡ false = cc in
    let same = write-same shape seats s is w due _ put (sym c.is_complete.ensures ∙ no) in
    sym (ap (λ ps. out ++ ps) (write-tells-no_more shape seats s is w due same) ∙ append-nil out)

pub returns-then-not-ends_phase-clause-stands : goal.returns-then-not-ends_phase-clause-stands
returns-then-not-ends_phase-clause-stands c = λ shape seats is.
    let s = c.args.self.now in
    let w = c.args.write in
    let due = c.requires.due in
    let g = turns_written shape seats in
    let n = newest shape seats in
    let next = with_write seats w.client w in
    let at : c.index_mut.result.now ≡ desk_at s w.client =
    get_or_read s.desks.items _ _ due.low c.index_mut.ensures.value empty_desk
    in
    let put =
    ap (slice_set s.desks.items w.client)
    (c.in_ok-put_write.ensures ∙ ap (λ (d : DeskView). desk (d.waiting ++ w ∷ []) d.asking d.asked) at)
    in
    let yes : c.is_complete.result ≡ true = cc in
    let one = write-completes shape seats s is w due _ put (sym c.is_complete.ensures ∙ yes) in
    let stays : c.closes-ends_phase.result ≡ false = cc in
    let ends = sym (ap₂ is_closing is.same is.turn_is) ∙ sym c.closes-ends_phase.ensures ∙ stays in
    write-open shape seats s is w due _ one ends
    (c.in_ok-apply_turn.ensures.stands shape next g n (write-put shape seats s is w due _ refl refl refl put)
    (omega (arith, one)))

pub returns-then-not-ends_phase-clause-told : goal.returns-then-not-ends_phase-clause-told
returns-then-not-ends_phase-clause-told c = λ shape seats is.
    let s = c.args.self.now in
    let w = c.args.write in
    let due = c.requires.due in
    let out = c.args.out.now.items in
    let at : c.index_mut.result.now ≡ desk_at s w.client =
    get_or_read s.desks.items _ _ due.low c.index_mut.ensures.value empty_desk
    in
    let put =
    ap (slice_set s.desks.items w.client)
    (c.in_ok-put_write.ensures ∙ ap (λ (d : DeskView). desk (d.waiting ++ w ∷ []) d.asking d.asked) at)
    in
    let yes : c.is_complete.result ≡ true = cc in
    let one = write-completes shape seats s is w due _ put (sym c.is_complete.ensures ∙ yes) in
    let stays : c.closes-ends_phase.result ≡ false = cc in
    let ends = sym (ap₂ is_closing is.same is.turn_is) ∙ sym c.closes-ends_phase.ensures ∙ stays in
    sym (ap (λ ps. out ++ ps) (write-open-tells shape seats s is w due one ends) ∙ append-nil out)

pub tell_all-requires : goal.tell_all-requires
tell_all-requires c =
    let s = c.args.self.now in
    let w = c.args.write in
    let due = c.requires.due in
    let shape = c.requires.serves.shape_of in
    let seats = c.requires.serves.seats_of in
    let is = c.requires.serves.stands in
    let g = turns_written shape seats in
    let n = newest shape seats in
    let next = with_write seats w.client w in
    let at : c.index_mut.result.now ≡ desk_at s w.client =
    get_or_read s.desks.items _ _ due.low c.index_mut.ensures.value empty_desk
    in
    let put =
    ap (slice_set s.desks.items w.client)
    (c.in_ok-put_write.ensures ∙ ap (λ (d : DeskView). desk (d.waiting ++ w ∷ []) d.asking d.asked) at)
    in
    let yes : c.is_complete.result ≡ true = cc in
    let one = write-completes shape seats s is w due _ put (sym c.is_complete.ensures ∙ yes) in
    let closes : c.closes-ends_phase.result ≡ true = cc in
    let ends = sym (ap₂ is_closing is.same is.turn_is) ∙ sym c.closes-ends_phase.ensures ∙ closes in
    record {
      shape_of = shape;
      seats_of = next;
      turn_of = g + 1;
      epoch_of = n;
      stands = (c.in_ok-apply_turn.ensures.stands shape next g n
          (write-put shape seats s is w due _ refl refl refl put) (omega (arith, one)));
      one_more = write-phase shape seats s is w due ends;
    }

pub returns-clause-stands : goal.returns-clause-stands
returns-clause-stands c = λ shape seats is.
    let s = c.args.self.now in
    let w = c.args.write in
    let due = c.requires.due in
    let g = turns_written shape seats in
    let n = newest shape seats in
    let next = with_write seats w.client w in
    let at : c.index_mut.result.now ≡ desk_at s w.client =
    get_or_read s.desks.items _ _ due.low c.index_mut.ensures.value empty_desk
    in
    let put =
    ap (slice_set s.desks.items w.client)
    (c.in_ok-put_write.ensures ∙ ap (λ (d : DeskView). desk (d.waiting ++ w ∷ []) d.asking d.asked) at)
    in
    let yes : c.is_complete.result ≡ true = cc in
    let one = write-completes shape seats s is w due _ put (sym c.is_complete.ensures ∙ yes) in
    let closes : c.closes-ends_phase.result ≡ true = cc in
    let ends = sym (ap₂ is_closing is.same is.turn_is) ∙ sym c.closes-ends_phase.ensures ∙ closes in
    write-closed shape seats s is w due _ one ends
    (c.release.ensures.stands shape next (g + 1) (n + 1)
    (c.in_ok-tell_all.ensures.stands shape next (g + 1) n
    (c.in_ok-apply_turn.ensures.stands shape next g n (write-put shape seats s is w due _ refl refl refl put)
    (omega (arith, one)))
    (write-phase shape seats s is w due ends)))

pub returns-clause-told : goal.returns-clause-told
returns-clause-told c = λ shape seats is.
    let s = c.args.self.now in
    let w = c.args.write in
    let due = c.requires.due in
    let g = turns_written shape seats in
    let n = newest shape seats in
    let next = with_write seats w.client w in
    let out = c.args.out.now.items in
    let at : c.index_mut.result.now ≡ desk_at s w.client =
    get_or_read s.desks.items _ _ due.low c.index_mut.ensures.value empty_desk
    in
    let put =
    ap (slice_set s.desks.items w.client)
    (c.in_ok-put_write.ensures ∙ ap (λ (d : DeskView). desk (d.waiting ++ w ∷ []) d.asking d.asked) at)
    in
    let yes : c.is_complete.result ≡ true = cc in
    let one = write-completes shape seats s is w due _ put (sym c.is_complete.ensures ∙ yes) in
    let closes : c.closes-ends_phase.result ≡ true = cc in
    let ends = sym (ap₂ is_closing is.same is.turn_is) ∙ sym c.closes-ends_phase.ensures ∙ closes in
    c.in_ok-tell_all.ensures.told shape next (g + 1) n
    (c.in_ok-apply_turn.ensures.stands shape next g n (write-put shape seats s is w due _ refl refl refl put)
    (omega (arith, one)))
    (write-phase shape seats s is w due ends)
    ∙ ap (λ ps. out ++ ps) (sym (write-closed-tells shape seats s is w due one ends))
