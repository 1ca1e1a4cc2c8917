use Rattle.std.proofs.Common.{◌≡◌, drop}
use Rattle.tk_board.proofs.door.published.Given as goal

abbrev pub invariant-loop : goal.invariant-loop
invariant-loop g l = (l.current.desk.shown.value ≡ l.fn.stage.desk.shown.value)
    × (drop l.current.behind l.current.log.items ≡ drop l.fn.stage.behind l.fn.stage.log.items)
