-- The epochs of the clients so far stand after what was there.
use Rattle.std.proofs.Common.{◌≡◌, ℕ, ◌++◌, ◌∷◌, flat_map, decimal}
use Rattle.std.specs.List.{range_with_len}
use Rattle.tk_schedule.specs.Schedule.{epoch_at}
use Rattle.tk_report.proofs.history_text.push_epochs.Given as goal

abbrev pub invariant-loop-client : goal.invariant-loop-client
invariant-loop-client l =
    let field = λ (k : ℕ). 0x20 ∷ decimal (epoch_at l.history l.turn k) in
    l.out.items ≡ l.fn.out.items ++ flat_map field (range_with_len 0 l.client)
