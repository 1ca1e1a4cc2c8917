-- The mark is the next entry where the turn closes its phase.
use Rattle.std.proofs.Common.{◌≡◌, ◌+◌, sym, subst, true, false, arith, OnOk, [], ◌∷◌, ◌++◌}
use Rattle.std.proofs.lemmas.Result.{on_ok_weaker}
use Rattle.tk_schedule.specs.Schedule.{is_closing}
use Rattle.tk_frames.specs.declared.entry.Entry.TheVariants.{Mark}
use Rattle.tk_replica.specs.Replica.{StandsFor}
use Rattle.tk_report.specs.Turns.{next_placed}
use Rattle.tk_serve.specs.Desks.{MayComeNext, turn_writes}
use Rattle.tk_serve.proofs.TurnLaws.{last-small, mark-comes, mark-stands, open-stands}
use Rattle.tk_serve.proofs.turns.apply_mark.Goals as goal

pub overflow_add-epoch : goal.overflow_add-epoch
overflow_add-epoch c =
    let small = last-small c.args.shape.now c.args.turn c.args.state.now c.requires.turn c.requires.written in
    omega (arith, small, c.last-epoch.ensures)

pub apply-requires : goal.apply-requires
apply-requires c =
    subst (λ n. MayComeNext c.args.state.now (Mark (n + 1))) (sym c.last-epoch.ensures)
    (mark-comes c.args.shape.now c.args.turn c.args.state.now c.requires.turn c.requires.written)

pub returns-then-not-closes-clause-stands : goal.returns-then-not-closes-clause-stands
returns-then-not-closes-clause-stands c = λ write stands.
    let open_still : is_closing c.args.shape.now c.args.turn ≡ false = cc in
    open-stands c.args.shape.now write c.args.turn c.args.state.now c.requires.turn open_still stands

pub returns-clause-stands : goal.returns-clause-stands
returns-clause-stands c = λ write stands.
    let shape = c.args.shape.now in
    let all = turn_writes shape write c.args.turn in
    let closes : is_closing shape c.args.turn ≡ true = cc in
    on_ok_weaker c.apply.result
    (mark-stands shape write c.args.turn c.args.state.now c.apply.new.state c.requires.turn closes stands)
    (subst (λ n. OnOk c.apply.result (StandsFor shape (all ++ next_placed all (Mark (n + 1)) ∷ []) c.apply.new.state))
    c.last-epoch.ensures (c.apply.ensures.stands shape all stands))
