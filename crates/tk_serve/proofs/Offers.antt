-- What the proofs of other crates may cite.

-- the least of some numbers
pub use Rattle.tk_serve.proofs.Least.{least-top, least-below, least-above}
-- turns and phases
pub use Rattle.tk_schedule.proofs.Offers.{one_more}
pub use Rattle.tk_serve.proofs.Phases.{phase-before, phase-past, closing-last, phases-step, phases-stay}
-- what each of some numbers gives
pub use Rattle.tk_serve.proofs.Lists.{flat_map-one}
-- what is told over entries that agree up to an epoch
pub use Rattle.tk_serve.proofs.ToldLaws.{SameUpTo, reply-same, epoch-same, closing-none, closing-some}
-- what a client is told after a step
pub use Rattle.tk_serve.proofs.StepLaws.{told_step, step-none}
-- the next frame of its client is taken
pub use Rattle.tk_serve.proofs.CheckLaws.{write-placed, read-placed_by}
-- seats before the first packet and after more, and what was told stays
pub use Rattle.tk_serve.proofs.OpenLaws.{empty-counted}
pub use Rattle.tk_serve.proofs.CourseLaws.{after-is}
pub use Rattle.tk_serve.proofs.GrowthLaws.{told-stays}
