-- The turn that came about when all have written and pinned, and what is seen of its entries.
use Rattle.std.proofs.Common.{◌≡◌, ◌+◌, ◌++◌, ◌∷◌, ◌∙◌, [], List, ℕ, length, arith, sym, subst, ap}
use Rattle.std.specs.Prelude.{flat_map}
use Rattle.std.proofs.lemmas.List.{with_items_is}
use Rattle.tk_frames.specs.Spelling.{placed_frame}
use Rattle.tk_schedule.specs.declared.item.Item.{Item}
use Rattle.tk_schedule.specs.declared.history.History.{History}
use Rattle.tk_schedule.specs.declared.history.TurnOrder.{TurnOrder}
use Rattle.tk_schedule.specs.Schedule.{phase_of}
use Rattle.tk_report.specs.Entries.{placed_from}
use Rattle.tk_report.specs.Clients.{client_told, client_knowing, AreClients}
use Rattle.tk_report.specs.Serving.{reader_under}
use Rattle.tk_report.specs.declared.group.Group.{Group}
use Rattle.tk_run.specs.declared.actors.Desk.{Desk}
use Rattle.tk_run.specs.Acting.{Acted, AreFrames, frames_on, deeds_on}
use Rattle.tk_run.specs.Ran.{turn_of}
use Rattle.tk_run.specs.Ranging.{over_ranges}
use Rattle.tk_run.specs.Courses.{HasWritten, GoesOn, entries_behind}
use Rattle.tk_run.proofs.CourseStarts.{course_goes, course_counted}
use Rattle.tk_run.proofs.GoesOnLaws.{filled}
use Rattle.tk_run.proofs.WrittenTurns.{writes, Came, came}
use Rattle.tk_run.proofs.course.write_turn.Given as given
use Rattle.tk_run.proofs.course.write_turn.Goals as goal
use Rattle.tk_run.proofs.course.write_turn.Goals.{In_ok-frames, In_ok-now}

module _ (g : given.Over) (c : goal.In_ok-frames g) where
  -- what is known of a turn with these entries
  abbrev Knows : List (List ℕ) → TurnOrder → Type 0
  Knows frames now =
      Came c.args.stage.now.script.now (g.D.Draws.book c.args.stage.now.draws.now) c.args.turn
      c.args.course.now.turns.items c.act_in.new.course.passes.items
      c.act_in.new.course.herald.publisher c.in_ok-frames.deeds.items frames now

  -- the turn that came about
  abbrev now : TurnOrder
  now =
      let shape = c.args.stage.now.script.now.shape in
      turn_of shape c.args.turn (entries_behind shape c.args.turn) c.in_ok-frames.deeds.items

  came_now : Knows c.in_ok-frames.frames.items now
  came_now =
      let S = c.args.stage.now.script.now in
      let old = c.args.course.now in
      let new = c.act_in.new.course in
      let es = c.act_in.new.desks in
      let desks = with_items_is c.in_ok-desks.desks es
      (omega (arith, c.act_in.auto.desks, c.as_mut_slice.ensures.len))
      in
      subst (λ (fs : List (List ℕ)). Knows fs now)
      (ap frames_on (sym desks) ∙ sym c.in_ok-frames.ensures.frames)
      (came S (g.D.Draws.book c.args.stage.now.draws.now) c.in_ok-frames.deeds.items c.requires.course
      c.requires.turn_in (c.one_spelling.ensures.writes S.shape)
      (subst (λ (ds : List Desk). Acted S.shape c.args.turn old.passes.items old.herald.publisher ds
      es new.passes.items new.herald.publisher) c.as_mut_slice.ensures.value
      c.in_ok-act_in.ensures.acted)
      c.in_ok-desks.ensures.frames (ap deeds_on (sym desks) ∙ c.in_ok-frames.ensures.deeds))

-- as it is noted
noted : (g : given.Over) (c : goal.In_ok-frames g) (d : TurnOrder) → d ≡ now g c →
    Knows g c c.in_ok-frames.frames.items d
noted g c d is = subst (Knows g c c.in_ok-frames.frames.items) (sym is) (came_now g c)

now_is : (g : given.Over) (c : goal.In_ok-now g) → let shape = c.args.stage.now.script.now.shape in
    c.in_ok-now.now
    ≡ turn_of shape c.args.turn (entries_behind shape c.args.turn) c.in_ok-frames.deeds.items
now_is g c =
    let shape = c.args.stage.now.script.now.shape in
    c.in_ok-now.ensures
    ∙ ap (turn_of shape c.args.turn (entries_behind shape c.args.turn)) c.as_slice.ensures.value

pub say-requires-clause-counted : goal.say-requires-clause-counted
say-requires-clause-counted g c = course_counted c.requires.course c.requires.turn_in

pub desks_for-requires-clause-clients : goal.desks_for-requires-clause-clients
desks_for-requires-clause-clients g c κs within =
    let S = c.args.stage.now.script.now in
    let book = g.D.Draws.book c.args.stage.now.draws.now in
    let V = over_ranges S book c.args.stage.now.crew.shards (g.A.Sums.sum c.args.stage.now.sums.now) in
    let H = filled S.shape c.args.course.now.turns.items in
    let knows = λ (k : ℕ). reader_under S book H (V H) k c.args.turn in (
      knows,
      subst (AreClients S.shape.clients (client_told S knows c.args.turn))
          (sym c.as_mut_slice-clients.ensures.value)
          (c.in_ok-say.ensures.clients knows
          (c.requires.course.clients H (course_goes c.requires.course c.requires.turn_in))),
    )

pub turn_from-requires-clause-counted : goal.turn_from-requires-clause-counted
turn_from-requires-clause-counted g c =
    let at = goal.at.turn_from-requires-clause-counted g c in
    ap length c.as_slice.ensures.value ∙ (came_now g at.In_ok-frames).counted

pub turn_from-requires-clause-within : goal.turn_from-requires-clause-within
turn_from-requires-clause-within g c =
    let at = goal.at.turn_from-requires-clause-within g c in
    rw c.as_slice.ensures.value (came_now g at.In_ok-frames).within

pub entries_from-requires-clause-within : goal.entries_from-requires-clause-within
entries_from-requires-clause-within g c =
    let at = goal.at.entries_from-requires-clause-within g c in
    rw c.as_slice-order.ensures (noted g at.In_ok-frames c.in_ok-now.now (now_is g at.In_ok-now)).order

pub entries_from-requires-clause-marks : goal.entries_from-requires-clause-marks
entries_from-requires-clause-marks g c =
    let at = goal.at.entries_from-requires-clause-marks g c in
    rw c.as_slice-order.ensures (noted g at.In_ok-frames c.in_ok-now.now (now_is g at.In_ok-now)).marks

pub entries_from-requires-clause-counted : goal.entries_from-requires-clause-counted
entries_from-requires-clause-counted g c =
    let at = goal.at.entries_from-requires-clause-counted g c in
    rw c.as_slice-order.ensures (noted g at.In_ok-frames c.in_ok-now.now (now_is g at.In_ok-now)).few

pub entries_from-requires-clause-frames : goal.entries_from-requires-clause-frames
entries_from-requires-clause-frames g c =
    let S = c.args.stage.now.script.now in
    let write = writes S (g.D.Draws.book c.args.stage.now.draws.now) c.args.turn in
    let at = goal.at.entries_from-requires-clause-frames g c in (
      write,
      subst (AreFrames S.shape write) (sym c.as_slice-2.ensures.value)
          (came_now g at.In_ok-frames).frames_are,
    )

pub returns-clause-written : goal.returns-clause-written
returns-clause-written g c =
    let S = c.args.stage.now.script.now in
    let book = g.D.Draws.book c.args.stage.now.draws.now in
    let V = over_ranges S book c.args.stage.now.crew.shards (g.A.Sums.sum c.args.stage.now.sums.now) in
    let turn = c.args.turn in
    let write = writes S book turn in
    let old = c.args.course.now in
    let new = c.act_in.new.course in
    let at = goal.at.returns-clause-written g c in
    let noted_now = noted g at.In_ok-frames c.in_ok-now.now (now_is g at.In_ok-now) in
    let group_is = c.in_ok-act_in.ensures.group in
    let told = with_items_is c.say.new.self.clients c.desks_for.new.clients
    (omega (arith, c.desks_for.auto.clients, c.as_mut_slice-clients.ensures.len))
    in
    let wrote = λ (H : History) (goes : GoesOn S.shape old.turns.items H).
    let knows = λ (k : ℕ). reader_under S book H (V H) k turn in
    subst (AreClients S.shape.clients (client_knowing S knows (turn + 1)))
    (sym (ap (λ (x : Group). x.clients.items) group_is ∙ told))
    (c.in_ok-desks.ensures.clients knows
    (subst (AreClients S.shape.clients (client_told S knows turn))
    (sym c.as_mut_slice-clients.ensures.value)
    (c.in_ok-say.ensures.clients knows
    (c.requires.course.clients H goes))))
    in
    let frames : AreFrames S.shape write c.as_slice-2.result.now =
    subst (AreFrames S.shape write) (sym c.as_slice-2.ensures.value) noted_now.frames_are
    in
    subst (λ (turns : List TurnOrder). HasWritten S book V turn turns new.group new.passes.items
    new.herald.publisher c.in_ok-frames.deeds.items c.in_ok-entries.entries.items)
    (sym (c.in_ok-push.ensures.items
    ∙ ap (λ (turns : List TurnOrder). turns ++ c.in_ok-now.now ∷ []) c.in_ok-act_in.ensures.turns))
    (noted_now.written V new.group c.in_ok-entries.entries.items
    (ap (λ (x : Group). x.said) group_is ∙ c.in_ok-say.ensures.said) wrote
    (c.in_ok-entries.ensures write frames
    ∙ ap (λ (items : List Item). flat_map placed_frame (placed_from write
    (entries_behind S.shape turn + 1) (phase_of S.shape turn) items)) c.as_slice-order.ensures))
