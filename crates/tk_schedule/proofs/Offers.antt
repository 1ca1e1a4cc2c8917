-- What the proofs of other crates may cite.

-- the serial history is legal, and a legal turn has no client out of range
pub use Rattle.tk_schedule.proofs.ScheduleLaws.{serial-IsLegal, turn_within, no_marks}
-- no mark stands among the items of clients
-- no epoch is made in a turn that doesn't close, so that its epochs are all the newest before it
pub use Rattle.tk_schedule.proofs.TurnLaws.{none_made, epochs_of_open}
-- the lines of a legal history tell its turns
pub use Rattle.tk_schedule.proofs.ToldLaws.{same_epochs, same_turn}
-- an end after lines of which none is one
pub use Rattle.tk_schedule.proofs.DueLaws.{end_behind_told}
-- in which phase the turn after a turn is
pub use Rattle.tk_schedule.proofs.NextPhase.{one_if, one_more, next_in_phase}
