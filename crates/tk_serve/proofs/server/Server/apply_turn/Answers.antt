-- The turn's writes may come next, and after them its mark.
use Rattle.std.proofs.Common.{◌≡◌, ◌+◌, ◌∙◌, refl, ap, sym, subst, arith, rules, length, map}
use Rattle.std.proofs.lemmas.List.{with_items_is, length-map}
use Rattle.tk_shape.specs.declared.shape.Shape.{Shape}
use Rattle.tk_schedule.specs.Schedule.{serial_history}
use Rattle.tk_frames.proofs.Offers.{turn_count_small}
use Rattle.tk_replica.specs.Replica.{StandsFor}
use Rattle.tk_report.specs.Entries.{entries_before}
use Rattle.tk_serve.specs.Seats.{taken_write, placed_to}
use Rattle.tk_serve.specs.Desks.{MayTakeTurn, with_writes, turn_writes, desk_behind}
use Rattle.tk_serve.proofs.StandsLaws.{desks-clients, may-take_turn, stands-next_turn}
use Rattle.tk_serve.proofs.TurnLaws.{takes-turn, turn-low, has-writes}
use Rattle.tk_serve.proofs.server.Server.apply_turn.Goals as goal

pub apply_writes-requires : goal.apply_writes-requires
apply_writes-requires c = takes-turn c.args.self.now c.as_mut_slice.result.now c.requires (search rules)

pub apply_mark-requires-clause-turn : goal.apply_mark-requires-clause-turn
apply_mark-requires-clause-turn c = turn-low c.args.self.now c.requires

pub apply_mark-requires-clause-written : goal.apply_mark-requires-clause-written
apply_mark-requires-clause-written c =
    let same : c.as_mut_slice.result.now ≡ (c.args.self.now.desks).items = search rules in
    let shape = c.requires.shape_of in
    let seats = c.requires.seats_of in
    let g = c.requires.turn_of in
    let may : MayTakeTurn shape (placed_to shape seats g) (taken_write seats g) c.args.self.now.state
    c.as_mut_slice.result.now =
    subst (MayTakeTurn shape (placed_to shape seats g) (taken_write seats g) c.args.self.now.state) (sym same)
    (may-take_turn shape seats g c.requires.epoch_of c.args.self.now c.requires.stands c.requires.written)
    in
    has-writes c.args.self.now (length c.as_mut_slice.result.now) c.apply_writes.new.state c.requires (ap length same)
    (c.in_ok-apply_writes.ensures.stands shape (placed_to shape seats g) (taken_write seats g) may)

pub overflow_add-self : goal.overflow_add-self
overflow_add-self c =
    let low = turn-low c.args.self.now c.requires in
    omega (arith, low, turn_count_small c.args.self.now.shape)

pub returns-clause-stands : goal.returns-clause-stands
returns-clause-stands c = λ shape seats g n is written.
    let s = c.args.self.now in
    let write = taken_write seats in
    let same : c.as_mut_slice.result.now ≡ s.desks.items = search rules in
    let may : MayTakeTurn shape (placed_to shape seats g) (write g) s.state c.as_mut_slice.result.now =
    subst (MayTakeTurn shape (placed_to shape seats g) (write g) s.state) (sym same)
    (may-take_turn shape seats g n s is written)
    in
    let counted : length c.as_mut_slice.result.now ≡ shape.clients = ap length same
    ∙ desks-clients shape seats g n s is in
    let after : StandsFor shape (turn_writes shape write g) c.apply_writes.new.state =
    subst (λ k. StandsFor shape (with_writes (placed_to shape seats g) (write g) k) c.apply_writes.new.state) counted
    (c.in_ok-apply_writes.ensures.stands shape (placed_to shape seats g) (write g) may)
    in
    let own : StandsFor s.shape (turn_writes s.shape write s.turn) c.apply_writes.new.state =
    subst (λ (sh : Shape). StandsFor sh (turn_writes sh write s.turn) c.apply_writes.new.state) (sym is.same)
    (subst (λ k. StandsFor shape (turn_writes shape write k) c.apply_writes.new.state) (sym is.turn_is) after)
    in
    let marked : StandsFor shape (placed_to shape seats (g + 1)) c.apply_mark.new.state =
    subst (λ k. StandsFor shape (entries_before write (serial_history shape) (k + 1)) c.apply_mark.new.state) is.turn_is
    (subst (λ (sh : Shape). StandsFor sh (entries_before write (serial_history sh) (s.turn + 1)) c.apply_mark.new.state)
    is.same (c.in_ok-apply_mark.ensures.stands write own))
    in
    let behind = c.in_ok-apply_writes.ensures.desks ∙ ap (map desk_behind) same in
    let long : length c.apply_writes.new.desks ≡ (s.desks).len =
    ap length behind ∙ length-map s.desks.items desk_behind ∙ sym (s.desks).ok.0
    in
    stands-next_turn shape seats g n s is _ written refl refl
    (c.apply_mark.ensures.floor ∙ c.apply_writes.ensures.floor) marked
    (with_items_is s.desks c.apply_writes.new.desks long ∙ behind)
